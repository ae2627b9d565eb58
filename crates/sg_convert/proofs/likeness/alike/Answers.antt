use Rattle.std.proofs.Common.{◌≡◌, Bool, true, ◌&&◌, List, sym, ap, ◌∙◌}
use Rattle.sg_words.specs.declared.operators.Ty.{Ty}
use Rattle.sg_coord.specs.Bounds.{Bounds, bounds_of}
use Rattle.sg_layout.specs.declared.shape.Shape.{Shape}
use Rattle.sg_layout.specs.Axes.{bounds_of_shape}
use Rattle.sg_convert.specs.Alike.{are_alike, same_bounds, same_types}
use Rattle.sg_convert.proofs.AlikeTests.{alike_tells}
use Rattle.sg_convert.proofs.likeness.alike.Goals as goal

pub returns-then-same_extents-clause-tells : goal.returns-then-same_extents-clause-tells
returns-then-same_extents-clause-tells c =
    let one = c.args.one.now in
    let other = c.args.other.now in
    let xs = c.as_slice.ensures ∙ ap (λ (s : Shape). s.fields) c.shape.ensures.value in
    let ys = c.as_slice-then-same_extents.ensures ∙ ap (λ (s : Shape). s.fields) c.shape-then-same_extents.ensures.value in
    let types : c.same_types.result ≡ same_types one.fields other.fields = c.same_types.ensures ∙ ap (λ (ts : List Ty). same_types ts c.as_slice-then-same_extents.result.now) xs ∙ ap (same_types one.fields) ys in
    let bounds : same_bounds (bounds_of_shape one) (bounds_of_shape other) ≡ true =
    ap (λ (b : Bounds). same_bounds b (bounds_of_shape other)) (sym c.extents.ensures.value) ∙ ap (same_bounds (bounds_of c.extents.result)) (sym c.extents-2.ensures.value) ∙ sym c.same_extents.ensures ∙ c.if-same_extents.true in
    let whole : are_alike one other ≡ c.same_types.result = ap (λ (b : Bool). b && same_types one.fields other.fields) bounds ∙ sym types in
    let tells = alike_tells one other in
    ((λ yes. tells.0 (whole ∙ yes)), (λ alike. sym whole ∙ tells.1 alike))
