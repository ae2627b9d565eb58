use Rattle.std.proofs.Common.{◌≡◌, ℤ, w64, to_z, of_z, IfOk, arith, subst}
use Rattle.std.specs.Prelude.{slice_get}
use Rattle.std.proofs.lemmas.Int.{to_z-of_z}
use Rattle.sg_flat.specs.declared.state.FlatState.{FlatState}
use Rattle.sg_exec.specs.Standing.{StandForState}
use Rattle.sg_session.specs.Commands.{image_of_field}
use Rattle.sg_session.proofs.Lists.{at_place}
use Rattle.sg_session.proofs.Performing.{has_store}
use Rattle.sg_session.proofs.Viewing.{image_done}
use Rattle.sg_session.proofs.views.image.Goals as goal

pub returns : goal.returns
returns c =
    let layouts = c.args.compiled.now.layouts in
    let stores = c.args.stores.now.list in
    let at = c.args.at in
    let lo = to_z w64 (of_z w64 c.args.lo) in
    let hi = to_z w64 (of_z w64 c.args.hi) in
    let lo_is : lo ≡ c.args.lo = grind (arith, to_z-of_z) in
    let hi_is : hi ≡ c.args.hi = grind (arith, to_z-of_z) in
    subst (λ (z : ℤ). IfOk c.image.result (λ text. (state : FlatState) → StandForState layouts stores state → text.bytes ≡ image_of_field at.place c.args.lo z (slice_get layouts at.layout) (slice_get state.layouts at.layout))) hi_is
    (subst (λ (z : ℤ). IfOk c.image.result (λ text. (state : FlatState) → StandForState layouts stores state → text.bytes ≡ image_of_field at.place z hi (slice_get layouts at.layout) (slice_get state.layouts at.layout))) lo_is
    (image_done layouts stores at.place at.layout lo hi c.index-as_slice-at.result c.image.result
    (at_place stores c.as_slice.result.now at.layout c.index-as_slice-at.result c.as_slice.ensures (has_store layouts stores at.layout at.place at.ty c.requires.stand c.requires.drawn.field.placed) c.index-as_slice-at.is)
    c.image.ensures))
