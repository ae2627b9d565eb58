use Rattle.std.proofs.Common.{◌++◌, length, drop, take, sym, ap, ◌∙◌, subst}
use Rattle.std.proofs.lemmas.List.{length_push}
use Rattle.sg_flat.specs.State.{AreFlatLayouts}
use Rattle.sg_flat.specs.Kernel.{layouts_after}
use Rattle.sg_flat.proofs.Pairs.{pair_turn, pair_end}
use Rattle.sg_flat.proofs.Insides.{stay_inside_each}
use Rattle.sg_flat.proofs.FlatLayouts.{flat_layout_at, first_past, AreFlatLayouts-more, AreFlatLayouts-all}
use Rattle.sg_flat.proofs.AfterRuns.{layouts_after-step, layouts_after-end}
use Rattle.sg_flat.proofs.kernel.next_state.Goals as goal

pub next_layout-requires-clause-flat : goal.next_layout-requires-clause-flat
next_layout-requires-clause-flat c =
    let shapes = c.args.layouts.now.list in
    let before = c.args.state.now.layouts in
    let stands = pair_turn shapes before c.into_iter-number-iterator.result c.enumerate-number-items.result c.zip.result c.iter.result
    c.into_iter-number-iterator.ensures.into_iter_gives c.enumerate-number-items.ensures.source c.enumerate-number-items.ensures.count c.zip.ensures.first
    (c.iter.ensures.rest ∙ c.as_slice.ensures) (c.zip.ensures.second.0 ∙ c.as_slice-before.ensures)
    c.loop-number.yielded c.loop-number.number-iterator c.next.new.self c.loop-number.yielded_by
    c.in-Some.number c.in-Some.layout c.in-Some.flat c.next.result c.in-Some.is c.next.ensures.steps in
    flat_layout_at shapes before (length c.loop-number.yielded) c.in-Some.number c.in-Some.layout.now c.in-Some.flat.now c.requires.flat stands

pub next_layout-requires-clause-inside : goal.next_layout-requires-clause-inside
next_layout-requires-clause-inside c =
    let shapes = c.args.layouts.now.list in
    let before = c.args.state.now.layouts in
    let stands = pair_turn shapes before c.into_iter-number-iterator.result c.enumerate-number-items.result c.zip.result c.iter.result
    c.into_iter-number-iterator.ensures.into_iter_gives c.enumerate-number-items.ensures.source c.enumerate-number-items.ensures.count c.zip.ensures.first
    (c.iter.ensures.rest ∙ c.as_slice.ensures) (c.zip.ensures.second.0 ∙ c.as_slice-before.ensures)
    c.loop-number.yielded c.loop-number.number-iterator c.next.new.self c.loop-number.yielded_by
    c.in-Some.number c.in-Some.layout c.in-Some.flat c.next.result c.in-Some.is c.next.ensures.steps in
    stay_inside_each shapes (length c.loop-number.yielded) c.in-Some.number c.in-Some.layout.now c.args.effects.now.turns stands.index stands.in_first stands.first c.requires.inside

pub loop-number-preserved : goal.loop-number-preserved
loop-number-preserved c =
    let shapes = c.args.layouts.now.list in
    let before = c.args.state.now.layouts in
    let stands = pair_turn shapes before c.into_iter-number-iterator.result c.enumerate-number-items.result c.zip.result c.iter.result
    c.into_iter-number-iterator.ensures.into_iter_gives c.enumerate-number-items.ensures.source c.enumerate-number-items.ensures.count c.zip.ensures.first
    (c.iter.ensures.rest ∙ c.as_slice.ensures) (c.zip.ensures.second.0 ∙ c.as_slice-before.ensures)
    c.loop-number.yielded c.loop-number.number-iterator c.next.new.self c.loop-number.yielded_by
    c.in-Some.number c.in-Some.layout c.in-Some.flat c.next.result c.in-Some.is c.next.ensures.steps in
    let turns = c.args.effects.now.turns in
    let i = length c.loop-number.yielded in
    let new = c.in_ok-next_layout.field-0 in
    let clauses = c.in_ok-next_layout.ensures in
    let pushed = c.in_ok-push.ensures.ok in
    let one_more = length_push c.loop-number.yielded (c.in-Some.number, (c.in-Some.layout, c.in-Some.flat)) in
    record {
      meaning = ap (λ n. c.push.new.self ++ layouts_after n (drop n shapes) (drop n before) turns) one_more
          ∙ layouts_after-step shapes before c.loop-number.flats c.push.new.self _ turns i c.in-Some.number c.in-Some.layout.now c.in-Some.flat.now new stands c.loop-number.invariant.meaning clauses.meaning pushed;
      flat = subst (λ n. AreFlatLayouts (take n shapes) c.push.new.self) (sym one_more)
          (AreFlatLayouts-more shapes c.loop-number.flats c.push.new.self i c.in-Some.layout.now new stands.in_first stands.first c.loop-number.invariant.flat clauses.flat pushed);
    }

pub returns-clause-meaning : goal.returns-clause-meaning
returns-clause-meaning c =
    let shapes = c.args.layouts.now.list in
    let before = c.args.state.now.layouts in
    let over = pair_end shapes before c.into_iter-number-iterator.result c.enumerate-number-items.result c.zip.result c.iter.result
    c.into_iter-number-iterator.ensures.into_iter_gives c.enumerate-number-items.ensures.source c.enumerate-number-items.ensures.count c.zip.ensures.first
    (c.iter.ensures.rest ∙ c.as_slice.ensures) (c.zip.ensures.second.0 ∙ c.as_slice-before.ensures)
    c.loop-number.yielded c.loop-number.number-iterator c.next.new.self c.loop-number.yielded_by
    c.next.result c.in-None.is c.next.ensures.steps in
    layouts_after-end shapes before c.loop-number.flats _ c.args.effects.now.turns (length c.loop-number.yielded) over c.loop-number.invariant.meaning

pub returns-clause-flat : goal.returns-clause-flat
returns-clause-flat c =
    let shapes = c.args.layouts.now.list in
    let before = c.args.state.now.layouts in
    let over = pair_end shapes before c.into_iter-number-iterator.result c.enumerate-number-items.result c.zip.result c.iter.result
    c.into_iter-number-iterator.ensures.into_iter_gives c.enumerate-number-items.ensures.source c.enumerate-number-items.ensures.count c.zip.ensures.first
    (c.iter.ensures.rest ∙ c.as_slice.ensures) (c.zip.ensures.second.0 ∙ c.as_slice-before.ensures)
    c.loop-number.yielded c.loop-number.number-iterator c.next.new.self c.loop-number.yielded_by
    c.next.result c.in-None.is c.next.ensures.steps in
    AreFlatLayouts-all shapes c.loop-number.flats (length c.loop-number.yielded) (first_past shapes before _ c.requires.flat over) c.loop-number.invariant.flat
