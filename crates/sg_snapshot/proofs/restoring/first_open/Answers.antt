use Rattle.std.proofs.Common.{◌≡◌, ◌<◌, false, length, refl, sym, ap, ◌∙◌, subst, arith}
use Rattle.std.proofs.lemmas.Bool.{both_ways}
use Rattle.sg_flat.specs.Closed.{AreClosed}
use Rattle.sg_snapshot.specs.declared.part.Part.{Part}
use Rattle.sg_snapshot.specs.Restoring.{first_open}
use Rattle.sg_snapshot.proofs.Openings.{closed_tests, open_tests, open_yes, open_no, open_none, part_here, rising_as, below_as, as_many}
use Rattle.sg_snapshot.proofs.restoring.first_open.Goals as goal

pub bounds-layouts-number : goal.bounds-layouts-number
bounds-layouts-number c = omega (arith, c.loop-number-test.true, as_many c.args.layouts.now c.args.parts.now c.requires)

pub loop-number-preserved : goal.loop-number-preserved
loop-number-preserved c =
    let layouts = c.args.layouts.now in
    let parts = c.args.parts.now in
    let number = c.loop-number.number in
    let shape = c.index-layouts-number.result in
    let part = c.index-parts-number.result in
    let below : number < length layouts = omega (arith, c.loop-number-test.true, as_many layouts parts c.requires) in
    let is = part_here layouts parts number shape part c.requires c.loop-number-test.true c.index-layouts-number.is c.index-parts-number.is in
    let same : c.as_slice.result.now ≡ part.rows = c.as_slice.ensures ∙ ap (λ (p : Part). p.rows) (sym c.index-parts-number.is) in
    open_yes layouts parts number shape part (first_open 0 layouts parts) below c.loop-number-test.true c.index-layouts-number.is c.index-parts-number.is
    (closed_tests c.numbering.ensures.row_of_point shape part is (subst (AreClosed shape) same (c.if-not-is_closed.ensures.0 refl))) c.loop-number.invariant

pub is_closed-requires : goal.is_closed-requires
is_closed-requires c =
    let layouts = c.args.layouts.now in
    let parts = c.args.parts.now in
    let shape = c.index-layouts-number.result in
    let part = c.index-parts-number.result in
    let is = part_here layouts parts c.loop-number.number shape part c.requires c.loop-number-test.true c.index-layouts-number.is c.index-parts-number.is in
    let same : c.as_slice.result.now ≡ part.rows = c.as_slice.ensures ∙ ap (λ (p : Part). p.rows) (sym c.index-parts-number.is) in
    record { rising = rising_as shape part c.as_slice.result.now is same; below = below_as shape part c.as_slice.result.now is same }

pub returns-then-not-is_closed : goal.returns-then-not-is_closed
returns-then-not-is_closed c =
    let layouts = c.args.layouts.now in
    let parts = c.args.parts.now in
    let number = c.loop-number.number in
    let shape = c.index-layouts-number.result in
    let part = c.index-parts-number.result in
    let below : number < length layouts = omega (arith, c.loop-number-test.true, as_many layouts parts c.requires) in
    let same : c.as_slice.result.now ≡ part.rows = c.as_slice.ensures ∙ ap (λ (p : Part). p.rows) (sym c.index-parts-number.is) in
    open_no layouts parts number c.in_ok-layout.layout shape part (first_open 0 layouts parts) below c.loop-number-test.true c.index-layouts-number.is c.index-parts-number.is
    (open_tests c.numbering.ensures.point_of_row shape part (c.closure_members.ensures.inside shape)
    (λ closed. both_ways false refl (c.if-not-is_closed.ensures.1 (subst (AreClosed shape) (sym same) closed))))
    c.in_ok-layout.ensures c.loop-number.invariant

pub returns : goal.returns
returns c =
    let layouts = c.args.layouts.now in
    let parts = c.args.parts.now in
    open_none layouts parts c.loop-number.number (first_open 0 layouts parts) (omega (arith, c.loop-number-test.false, as_many layouts parts c.requires)) c.loop-number.invariant
