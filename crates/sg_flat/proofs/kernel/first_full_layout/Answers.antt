use Rattle.std.proofs.Common.{◌++◌, ◌+◌, length, drop, sym, ap, ◌∙◌}
use Rattle.std.proofs.lemmas.List.{length_push}
use Rattle.sg_layout.specs.Need.{first_full}
use Rattle.sg_flat.specs.Effects.{written_in}
use Rattle.sg_flat.specs.Kernel.{full_fault, first_full_layout}
use Rattle.sg_flat.proofs.Pairs.{pair_turn, pair_end}
use Rattle.sg_flat.proofs.Insides.{stay_inside_each}
use Rattle.sg_flat.proofs.FlatLayouts.{flat_layout_at}
use Rattle.sg_flat.proofs.AfterRuns.{first_full_layout-here, first_full_layout-end, stops_here, goes_on}
use Rattle.sg_flat.proofs.kernel.first_full_layout.Goals as goal

pub full_layout-requires-clause-flat : goal.full_layout-requires-clause-flat
full_layout-requires-clause-flat c =
    let shapes = c.args.layouts.now.list in
    let before = c.args.state.now.layouts in
    let stands = pair_turn shapes before c.into_iter-number-iterator.result c.enumerate-number-items.result c.zip.result c.iter.result
    c.into_iter-number-iterator.ensures.into_iter_gives c.enumerate-number-items.ensures.source c.enumerate-number-items.ensures.count c.zip.ensures.first
    (c.iter.ensures.rest ∙ c.as_slice.ensures) (c.zip.ensures.second.0 ∙ c.as_slice-before.ensures)
    c.loop-number.yielded c.loop-number.number-iterator c.next.new.self c.loop-number.yielded_by
    c.in-Some.number c.in-Some.layout c.in-Some.flat c.next.result c.in-Some.is c.next.ensures.steps in
    flat_layout_at shapes before (length c.loop-number.yielded) c.in-Some.number c.in-Some.layout.now c.in-Some.flat.now c.requires.flat stands

pub full_layout-requires-clause-inside : goal.full_layout-requires-clause-inside
full_layout-requires-clause-inside c =
    let shapes = c.args.layouts.now.list in
    let before = c.args.state.now.layouts in
    let stands = pair_turn shapes before c.into_iter-number-iterator.result c.enumerate-number-items.result c.zip.result c.iter.result
    c.into_iter-number-iterator.ensures.into_iter_gives c.enumerate-number-items.ensures.source c.enumerate-number-items.ensures.count c.zip.ensures.first
    (c.iter.ensures.rest ∙ c.as_slice.ensures) (c.zip.ensures.second.0 ∙ c.as_slice-before.ensures)
    c.loop-number.yielded c.loop-number.number-iterator c.next.new.self c.loop-number.yielded_by
    c.in-Some.number c.in-Some.layout c.in-Some.flat c.next.result c.in-Some.is c.next.ensures.steps in
    stay_inside_each shapes (length c.loop-number.yielded) c.in-Some.number c.in-Some.layout.now c.args.effects.now.turns stands.index stands.in_first stands.first c.requires.inside

pub returns-then-is_some : goal.returns-then-is_some
returns-then-is_some c =
    let shapes = c.args.layouts.now.list in
    let before = c.args.state.now.layouts in
    let turns = c.args.effects.now.turns in
    let i = length c.loop-number.yielded in
    let stands = pair_turn shapes before c.into_iter-number-iterator.result c.enumerate-number-items.result c.zip.result c.iter.result
    c.into_iter-number-iterator.ensures.into_iter_gives c.enumerate-number-items.ensures.source c.enumerate-number-items.ensures.count c.zip.ensures.first
    (c.iter.ensures.rest ∙ c.as_slice.ensures) (c.zip.ensures.second.0 ∙ c.as_slice-before.ensures)
    c.loop-number.yielded c.loop-number.number-iterator c.next.new.self c.loop-number.yielded_by
    c.in-Some.number c.in-Some.layout c.in-Some.flat c.next.result c.in-Some.is c.next.ensures.steps in
    stops_here c.in_ok-fault.fault (full_fault c.in-Some.number (first_full c.in-Some.layout.now (c.in-Some.flat.now.active ++ written_in c.in-Some.number turns)))
    (first_full_layout (i + 1) (drop (i + 1) shapes) (drop (i + 1) before) turns) (first_full_layout 0 shapes before turns)
    c.in_ok-fault.ensures (sym c.is_some.ensures ∙ c.if-is_some.true)
    (first_full_layout-here shapes before _ turns i c.in-Some.number c.in-Some.layout.now c.in-Some.flat.now stands c.loop-number.invariant)

pub loop-number-preserved : goal.loop-number-preserved
loop-number-preserved c =
    let shapes = c.args.layouts.now.list in
    let before = c.args.state.now.layouts in
    let turns = c.args.effects.now.turns in
    let i = length c.loop-number.yielded in
    let stands = pair_turn shapes before c.into_iter-number-iterator.result c.enumerate-number-items.result c.zip.result c.iter.result
    c.into_iter-number-iterator.ensures.into_iter_gives c.enumerate-number-items.ensures.source c.enumerate-number-items.ensures.count c.zip.ensures.first
    (c.iter.ensures.rest ∙ c.as_slice.ensures) (c.zip.ensures.second.0 ∙ c.as_slice-before.ensures)
    c.loop-number.yielded c.loop-number.number-iterator c.next.new.self c.loop-number.yielded_by
    c.in-Some.number c.in-Some.layout c.in-Some.flat c.next.result c.in-Some.is c.next.ensures.steps in
    ap (λ n. first_full_layout n (drop n shapes) (drop n before) turns) (length_push c.loop-number.yielded (c.in-Some.number, (c.in-Some.layout, c.in-Some.flat)))
    ∙ goes_on c.in_ok-fault.fault (full_fault c.in-Some.number (first_full c.in-Some.layout.now (c.in-Some.flat.now.active ++ written_in c.in-Some.number turns)))
    (first_full_layout (i + 1) (drop (i + 1) shapes) (drop (i + 1) before) turns) (first_full_layout 0 shapes before turns)
    c.in_ok-fault.ensures (sym c.is_some.ensures ∙ c.if-is_some.false)
    (first_full_layout-here shapes before _ turns i c.in-Some.number c.in-Some.layout.now c.in-Some.flat.now stands c.loop-number.invariant)

pub returns : goal.returns
returns c =
    let shapes = c.args.layouts.now.list in
    let before = c.args.state.now.layouts in
    let over = pair_end shapes before c.into_iter-number-iterator.result c.enumerate-number-items.result c.zip.result c.iter.result
    c.into_iter-number-iterator.ensures.into_iter_gives c.enumerate-number-items.ensures.source c.enumerate-number-items.ensures.count c.zip.ensures.first
    (c.iter.ensures.rest ∙ c.as_slice.ensures) (c.zip.ensures.second.0 ∙ c.as_slice-before.ensures)
    c.loop-number.yielded c.loop-number.number-iterator c.next.new.self c.loop-number.yielded_by
    c.next.result c.in-None.is c.next.ensures.steps in
    sym (first_full_layout-end shapes before _ c.args.effects.now.turns (length c.loop-number.yielded) over c.loop-number.invariant)
