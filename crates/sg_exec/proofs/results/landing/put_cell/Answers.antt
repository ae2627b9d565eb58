use Rattle.std.proofs.Common.{◌≡◌, ◌∷◌, [], ℕ, List, Some, None, sym, ap, ◌∙◌, subst}
use Rattle.std.specs.Prelude.{slice_get, Contains}
use Rattle.sg_coord.specs.declared.coord.Coord.{Coord}
use Rattle.sg_layout.specs.declared.shape.Shape.{Shape}
use Rattle.sg_flat.specs.declared.state.FlatLayout.{FlatLayout}
use Rattle.sg_flat.specs.declared.effects.Way.{Way}
use Rattle.sg_flat.specs.Effects.{land}
use Rattle.sg_flat.proofs.Uses.{RunLaws}
use Rattle.sg_flat.specs.State.{value_at}
use Rattle.sg_store.specs.StandsFor.{StandsFor, SetsValue}
use Rattle.sg_store.specs.Walks.{cell_in}
use Rattle.sg_exec.specs.steps.Landing.{landed_layout}
use Rattle.sg_exec.proofs.OneWrite.{sets_value, no_field}
use Rattle.sg_exec.proofs.StoreLists.{some_is_none}
use Rattle.sg_exec.proofs.results.landing.put_cell.Goals as goal

pub returns-in_default-clause-lands : goal.returns-in_default-clause-lands
returns-in_default-clause-lands c = λ flat stands made is active.
    let none : slice_get c.args.store.now.shape.fields made.place ≡ None =
    ap (slice_get c.args.store.now.shape.fields) (sym is.place)
    ∙ ap (λ (s : Shape). slice_get s.fields c.args.write.now.place) (sym c.layout.ensures.layout) ∙ ap (λ (s : Shape). slice_get s.fields c.args.write.now.place) (sym c.shape.ensures.value)
    ∙ sym c.get.ensures.value ∙ sym c.copied.ensures ∙ c.in_default.is in
    subst (λ (l : FlatLayout). StandsFor c.args.store.now l) (sym (no_field c.args.store.now.shape flat made stands.is_flat none)) stands

pub returns-in_default-cell-clause-lands : goal.returns-in_default-cell-clause-lands
returns-in_default-cell-clause-lands c = λ flat stands made is active.
    let inside = (c.closure_members.ensures.inside c.args.store.now.shape flat.active made.at (subst (λ (ats : List Coord). Contains ats made.at) stands.is_flat.closed active)).1 in
    let within = (c.numbering.ensures.inside_test _ made.at).1 inside in
    absurd (some_is_none (cell_in c.args.store.now made.at) (sym (is.cell within) ∙ c.in_default-cell.is) ((c.cells_are_active.ensures.active c.args.store.now c.layout.ensures.well_formed flat stands made.at).1 active))

pub returns-clause-lands : goal.returns-clause-lands
returns-clause-lands c = λ flat stands made is active.
    let shape = c.args.store.now.shape in
    let write = c.args.write.now in
    let ty = c.in-Some.ty in
    let is_ty : slice_get shape.fields made.place ≡ Some ty =
    ap (slice_get shape.fields) (sym is.place)
    ∙ ap (λ (s : Shape). slice_get s.fields write.place) (sym c.layout.ensures.layout) ∙ ap (λ (s : Shape). slice_get s.fields write.place) (sym c.shape.ensures.value)
    ∙ sym c.get.ensures.value ∙ sym c.copied.ensures ∙ c.in-Some.is in
    let coords = c.numbering.ensures in
    let laws : RunLaws shape = record {
      inside_test = coords.inside_test;
      point_inside = coords.point_inside;
      point_of_row = coords.point_of_row;
      extends = c.closure_closes.ensures.extends shape;
      closed = c.closure_closes.ensures.closed shape;
    } in
    let inside = (c.closure_members.ensures.inside shape flat.active made.at (subst (λ ats. Contains ats made.at) stands.is_flat.closed active)).1 in
    let within = (coords.inside_test _ made.at).1 inside in
    let cell_is : cell_in c.args.store.now made.at ≡ Some c.in-Some-cell.cell = sym (is.cell within) ∙ c.in-Some-cell.is in
    let after = landed_layout made.layout shape flat (made ∷ []) in
    c.set.ensures.stands flat after made.at stands cell_is
    (subst (λ (place : ℕ). SetsValue shape flat after place made.at c.word_after-word.result) (sym is.place)
    (sets_value shape flat made ty c.word_after-word.result laws (c.closure_members.ensures.of_members shape) coords.row_below stands.is_flat inside active is_ty
    (c.word_after-word.ensures ∙ ap (λ (old : ℕ). land ty old write.way write.value) (c.value.ensures.stands flat stands made.at cell_is)
    ∙ ap (λ (place : ℕ). land ty (value_at shape flat place made.at) write.way write.value) is.place
    ∙ ap (λ (way : Way). land ty (value_at shape flat made.place made.at) way write.value) is.way
    ∙ ap (λ (value : ℕ). land ty (value_at shape flat made.place made.at) made.way value) is.value) c.word_after-word.type_inv))
