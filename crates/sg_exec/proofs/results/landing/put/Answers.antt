use Rattle.std.proofs.Common.{◌≡◌, ◌∷◌, [], ℕ, Some, None, sym, ap, ◌∙◌, subst}
use Rattle.std.specs.Prelude.{slice_get, Contains}
use Rattle.sg_layout.specs.declared.shape.Shape.{Shape}
use Rattle.sg_flat.specs.declared.state.FlatLayout.{FlatLayout}
use Rattle.sg_flat.specs.Effects.{land}
use Rattle.sg_flat.proofs.Uses.{RunLaws}
use Rattle.sg_store.specs.StandsFor.{StandsFor}
use Rattle.sg_store.specs.Walks.{cell_in}
use Rattle.sg_exec.specs.steps.Landing.{landed_layout}
use Rattle.sg_exec.proofs.OneWrite.{sets_value, no_field}
use Rattle.sg_exec.proofs.results.landing.put.Goals as goal

pub returns-in_default-clause-lands : goal.returns-in_default-clause-lands
returns-in_default-clause-lands c = λ flat stands active.
    let place = c.args.write.now.place in
    let none : slice_get c.args.store.now.shape.fields place ≡ None =
    ap (λ (s : Shape). slice_get s.fields place) (sym c.layout.ensures.layout) ∙ ap (λ (s : Shape). slice_get s.fields place) (sym c.shape.ensures.value)
    ∙ sym c.get.ensures.value ∙ sym c.copied.ensures ∙ c.in_default.is in
    subst (λ (l : FlatLayout). StandsFor c.args.store.now l) (sym (no_field c.args.store.now.shape flat c.args.write.now stands.is_flat none)) stands

pub returns-clause-lands : goal.returns-clause-lands
returns-clause-lands c = λ flat stands active.
    let shape = c.args.store.now.shape in
    let write = c.args.write.now in
    let ty = c.in-Some.ty in
    let is_ty : slice_get shape.fields write.place ≡ Some ty =
    ap (λ (s : Shape). slice_get s.fields write.place) (sym c.layout.ensures.layout) ∙ ap (λ (s : Shape). slice_get s.fields write.place) (sym c.shape.ensures.value)
    ∙ sym c.get.ensures.value ∙ sym c.copied.ensures ∙ c.in-Some.is in
    let cell_is : cell_in c.args.store.now write.at ≡ Some c.in-Some-cell_of.cell = sym c.cell_of.ensures.value ∙ c.in-Some-cell_of.is in
    let coords = c.numbering.ensures in
    let laws : RunLaws shape = record {
      inside_test = coords.inside_test;
      point_inside = coords.point_inside;
      point_of_row = coords.point_of_row;
      extends = c.closure_closes.ensures.extends shape;
      closed = c.closure_closes.ensures.closed shape;
    } in
    let inside = (c.closure_members.ensures.inside shape flat.active write.at (subst (λ ats. Contains ats write.at) stands.is_flat.closed active)).1 in
    c.set.ensures.stands flat (landed_layout write.layout shape flat (write ∷ [])) write.at stands cell_is
    (sets_value shape flat write ty c.word_after-word.result laws (c.closure_members.ensures.of_members shape) coords.row_below stands.is_flat inside active is_ty
    (c.word_after-word.ensures ∙ ap (λ (old : ℕ). land ty old write.way write.value) (c.value.ensures.stands flat stands write.at cell_is)) c.word_after-word.type_inv)
