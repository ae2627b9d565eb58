use Rattle.std.proofs.Common.{◌≡◌, false, refl, sym, ap, ◌∙◌, subst}
use Rattle.std.specs.Prelude.{Contains}
use Rattle.std.proofs.lemmas.Bool.{both_ways}
use Rattle.sg_coord.specs.declared.coord.Coord.{Coord}
use Rattle.sg_coord.specs.Bounds.{Bounds}
use Rattle.sg_coord.specs.Coord.{point_at}
use Rattle.sg_layout.specs.Axes.{bounds_of_shape}
use Rattle.sg_snapshot.specs.steps.Laying.{laid}
use Rattle.sg_snapshot.proofs.filling.set_row.Goals as goal

pub returns-in-Some-clause-gives : goal.returns-in-Some-clause-gives
returns-in-Some-clause-gives c = λ active word is has stands.
    let here : c.coord_at-at.result ≡ point_at (bounds_of_shape c.args.store.now.shape) c.args.row =
    c.coord_at-at.ensures.value ∙ ap (λ (b : Bounds). point_at b c.args.row) (c.extents.ensures.value ∙ ap bounds_of_shape c.layout.ensures.layout) in
    c.set_cell.ensures.gives active word c.args.row c.requires.inside (sym here) is (subst (λ (x : Coord). Contains active x) (sym here) has) stands

pub returns-in-None-clause-gives : goal.returns-in-None-clause-gives
returns-in-None-clause-gives c = λ active word is has stands.
    let here : c.coord_at-at.result ≡ point_at (bounds_of_shape c.args.store.now.shape) c.args.row =
    c.coord_at-at.ensures.value ∙ ap (λ (b : Bounds). point_at b c.args.row) (c.extents.ensures.value ∙ ap bounds_of_shape c.layout.ensures.layout) in
    absurd (both_ways false refl ((c.in-None.ensures.active (laid c.args.store.now.shape active word) stands).1 (subst (λ (x : Coord). Contains active x) (sym here) has)))
