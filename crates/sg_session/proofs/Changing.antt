-- A store that changes, and what all stores stand for then.
use Rattle.std.proofs.Common.{◌≡◌, ℕ, zero, suc, List, [], ◌∷◌, Some, refl, sym, ap, ◌∙◌, subst}
use Rattle.std.specs.Prelude.{slice_get, slice_set}
use Rattle.std.specs.List.{AllZip}
use Rattle.sg_layout.specs.declared.shape.Shape.{Shape}
use Rattle.sg_flat.specs.declared.state.FlatLayout.{FlatLayout}
use Rattle.sg_flat.specs.declared.state.FlatState.{FlatState}
use Rattle.sg_store.specs.StoreWords.{StoreWords}
use Rattle.sg_store.specs.StandsFor.{StandsFor}
use Rattle.sg_exec.specs.Standing.{StandForState, shapes_of}
use Rattle.sg_session.specs.Commands.{changed_at, without_text, layout_made}
use Rattle.sg_session.specs.Performed.{LeavesMeaning, HasState}

-- a store has changed to another of its shape, as its layout changes
pub record HasChanged (change : Shape → FlatLayout → FlatLayout) (store now : StoreWords) : Type 0 where
  pub shape : now.shape ≡ store.shape
  pub stands : (flat : FlatLayout) → StandsFor store flat → StandsFor now (change store.shape flat)

shapes_stay : (stores : List StoreWords) (k : ℕ) (store now : StoreWords) → slice_get stores k ≡ Some store → now.shape ≡ store.shape → shapes_of (slice_set stores k now) ≡ shapes_of stores
shapes_stay [] k store now there same = absurd (cc)
shapes_stay (other ∷ stores) zero store now there same =
    let is : other ≡ store = cc in ap (λ (s : Shape). s ∷ shapes_of stores) (same ∙ ap (λ (o : StoreWords). o.shape) (sym is))
shapes_stay (other ∷ stores) (suc k) store now there same = ap (λ (ss : List Shape). other.shape ∷ ss) (shapes_stay stores k store now there same)

stand_changed : (change : Shape → FlatLayout → FlatLayout) (stores : List StoreWords) (flats : List FlatLayout) (k : ℕ) (store now : StoreWords) → AllZip StandsFor stores flats → slice_get stores k ≡ Some store → HasChanged change store now
    → AllZip StandsFor (slice_set stores k now) (changed_at change (shapes_of stores) flats k)
stand_changed change [] flats k store now all there changed = absurd (cc)
stand_changed change (other ∷ stores) [] k store now all there changed = absurd all
stand_changed change (other ∷ stores) (flat ∷ flats) zero store now all there changed =
    let is : other ≡ store = cc in
    let here : StandsFor now (change store.shape flat) = changed.stands flat (subst (λ (s : StoreWords). StandsFor s flat) is all.0) in
    (subst (λ (s : StoreWords). StandsFor now (change s.shape flat)) (sym is) here, all.1)
stand_changed change (other ∷ stores) (flat ∷ flats) (suc k) store now all there changed = (all.0, stand_changed change stores flats k store now all.1 there changed)

-- the stores stand for the state whose layout has changed
pub state_changed : (change : Shape → FlatLayout → FlatLayout) (layouts : List Shape) (stores : List StoreWords) (state : FlatState) (k : ℕ) (store now : StoreWords) → StandForState layouts stores state → slice_get stores k ≡ Some store → HasChanged change store now
    → StandForState layouts (slice_set stores k now) (record { layouts = changed_at change layouts state.layouts k })
state_changed change layouts stores state k store now stand there changed = record {
  shapes_are = shapes_stay stores k store now there changed.shape ∙ stand.shapes_are;
  stand = subst (λ (ss : List Shape). AllZip StandsFor (slice_set stores k now) (changed_at change ss state.layouts k)) stand.shapes_are
      (stand_changed change stores state.layouts k store now stand.stand there changed);
}

-- what the change leaves
pub change_left : (change : Shape → FlatLayout → FlatLayout) (layouts : List Shape) (stores : List StoreWords) (state : FlatState) (k : ℕ) (store now : StoreWords) (text : List ℕ) → text ≡ [] → StandForState layouts stores state → slice_get stores k ≡ Some store → HasChanged change store now
    → LeavesMeaning layouts (slice_set stores k now) text (layout_made change layouts state k)
change_left change layouts stores state k store now text none stand there changed = record {
  left = without_text (record { layouts = changed_at change layouts state.layouts k });
  is = refl;
  stand = state_changed change layouts stores state k store now stand there changed;
  text_is = none;
}

pub change_stands : (change : Shape → FlatLayout → FlatLayout) (layouts : List Shape) (stores : List StoreWords) (k : ℕ) (store now : StoreWords) → HasState layouts stores → slice_get stores k ≡ Some store → HasChanged change store now
    → HasState layouts (slice_set stores k now)
change_stands change layouts stores k store now had there changed =
    (record { layouts = changed_at change layouts had.0.layouts k }, state_changed change layouts stores had.0 k store now had.1 there changed)
