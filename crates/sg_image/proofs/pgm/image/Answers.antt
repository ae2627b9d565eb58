use Rattle.std.proofs.Common.{◌≡◌, w64, to_z, of_z, ℤ, arith, List, ℕ, Vec, Global, ap, ◌∙◌, ◌++◌}
use Rattle.std.proofs.lemmas.Int.{to_z-of_z}
use Rattle.sg_coord.specs.Bounds.{Bounds}
use Rattle.sg_layout.specs.declared.shape.Shape.{Shape}
use Rattle.sg_layout.specs.Axes.{bounds_of_shape}
use Rattle.sg_image.specs.Image.{type_of_field, image_text}
use Rattle.sg_image.specs.Pgm.{image_rows_text}
use Rattle.sg_image.specs.steps.Keeping.{kept_grey}
use Rattle.sg_image.proofs.Images.{image_is}
use Rattle.sg_image.proofs.pgm.image.Goals as goal

pub returns : goal.returns
returns c flat stands =
    let store = c.args.store.now in
    let lo = to_z w64 (of_z w64 c.args.lo) in
    let hi = to_z w64 (of_z w64 c.args.hi) in
    let lo_is : lo ≡ c.args.lo = grind (arith, to_z-of_z) in
    let hi_is : hi ≡ c.args.hi = grind (arith, to_z-of_z) in
    let bounds = c.extents-extents.ensures.value ∙ ap bounds_of_shape c.layout-layout.ensures.layout in
    c.from_vec.ensures
    ∙ ap (λ (v : Vec ℕ Global). v.items) c.into_bytes.ensures.value
    ∙ c.in_ok-push_rows.ensures
    ∙ ap (λ (t : List ℕ). t ++ image_rows_text c.extents-extents.result.b c.extents-extents.result.a (kept_grey store c.args.place c.type_of_field-ty.result lo hi)) c.in_ok-text.ensures
    ∙ image_is c.numbering.ensures.inside_test c.numbering.ensures.point_of_row store c.layout-layout.ensures.well_formed (c.cells_are_active.ensures.active store) flat stands c.args.place c.requires.field lo hi
    c.type_of_field-ty.result (c.type_of_field-ty.ensures ∙ ap (λ (s : Shape). type_of_field s c.args.place) c.layout-layout.ensures.layout)
    c.extents-extents.result.b c.extents-extents.result.a (ap (λ (b : Bounds). b.b) bounds) (ap (λ (b : Bounds). b.a) bounds)
    ∙ ap (λ (z : ℤ). image_text store.shape flat c.args.place z hi) lo_is ∙ ap (λ (z : ℤ). image_text store.shape flat c.args.place c.args.lo z) hi_is
