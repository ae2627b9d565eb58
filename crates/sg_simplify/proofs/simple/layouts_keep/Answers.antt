use Rattle.std.proofs.Common.{◌≡◌, ℕ, ◌<◌, Some, length, get_or, ap, ◌∙◌, subst, arith}
use Rattle.std.specs.Prelude.{slice_get}
use borrow.Author.Count.{below_more}
use Rattle.sg_coord.specs.Bounds.{IsBounds}
use Rattle.sg_layout.specs.declared.shape.Shape.{Shape}
use Rattle.sg_layout.specs.Accepted.{IsAccepted}
use Rattle.sg_layout.specs.Axes.{bounds_of_shape}
use Rattle.sg_simplify.proofs.Laid.{got, within}
use Rattle.sg_simplify.proofs.simple.layouts_keep.Goals as goal

pub loop-layout-init : goal.loop-layout-init
loop-layout-init c = λ k below. absurd (omega arith)

pub loop-layout-preserved : goal.loop-layout-preserved
loop-layout-preserved c =
    let shapes = c.args.layouts.now.list in
    let i = c.loop-layout.layout-index in
    let item = c.layout-item.result in
    let keeps : ℕ → Type 0 = λ k. (shape : Shape) → slice_get shapes k ≡ Some shape → IsAccepted shape × IsBounds (bounds_of_shape shape) in
    let here : item ≡ get_or shapes i item = c.layout-item.is ∙ ap (λ items. get_or items i item) c.as_slice-layout-items.ensures in
    below_more keeps i c.loop-layout.invariant
    (λ shape there. subst (λ (it : Shape). IsAccepted it × IsBounds (bounds_of_shape it)) (got shapes i item shape there here) (c.shape.ensures.accepted, c.extents.ensures.bounds))

pub returns : goal.returns
returns c = λ layout shape there.
    let shapes = c.args.layouts.now.list in
    let inside : layout < length shapes = within shapes layout shape there in
    let same : length c.as_slice-layout-items.result.now ≡ length shapes = ap (λ (items : _). length items) c.as_slice-layout-items.ensures in
    c.loop-layout.invariant layout (omega arith) shape there
