-- The writes to one field, landed in a list of stores.
use Rattle.std.proofs.Common.{◌≡◌, ℕ, zero, suc, ◌+◌, ◌==◌, List, [], ◌∷◌, Some, refl, sym, ◌∙◌, subst, arith}
use Rattle.std.specs.Prelude.{filter, slice_get, slice_set, Contains}
use Rattle.std.specs.List.{AllZip}
use Rattle.std.proofs.lemmas.Bool.{and_from, eq-eqb}
use Rattle.std.proofs.lemmas.Option.{same_Some}
use Rattle.sg_words.proofs.Uses.{into_filter}
use Rattle.sg_coord.specs.Bounds.{Bounds}
use Rattle.sg_layout.specs.Axes.{bounds_of_shape}
use Rattle.sg_flat.specs.declared.effects.Write.{Write}
use Rattle.sg_flat.specs.declared.state.FlatLayout.{FlatLayout}
use Rattle.sg_flat.specs.Effects.{is_to}
use Rattle.sg_store.specs.StoreWords.{StoreWords}
use Rattle.sg_store.specs.StandsFor.{StandsFor}
use Rattle.sg_exec.specs.Standing.{shapes_of}
use Rattle.sg_exec.specs.steps.Landing.{landed_layout, landed_layouts, Lands}
use Rattle.sg_exec.proofs.FieldsLanded.{layout_kept}
use Rattle.sg_exec.proofs.StoresLanded.{others_stand, shapes_set}
use Rattle.sg_exec.specs.steps.Passes.{to_field, into_field}
use Rattle.sg_exec.proofs.SumLanded.{to_other}

none_into : (bounds : Bounds) (layout place other_layout other row : ℕ) (writes : List Write) → (other_layout ≡ layout → ⊥) → filter (is_to bounds other_layout other row) (into_field layout place writes) ≡ []
none_into bounds layout place other_layout other row writes apart = to_other bounds layout place other_layout other row writes (λ same there. apart same)

field_stands : (k i layout place : ℕ) (stores : List StoreWords) (flats : List FlatLayout) (now : StoreWords) (writes : List Write) → AllZip StandsFor stores flats → layout ≡ k + i
    → ((old : StoreWords) (flat : FlatLayout) → slice_get stores i ≡ Some old → slice_get flats i ≡ Some flat → StandsFor old flat → StandsFor now (landed_layout layout old.shape flat (into_field layout place writes)))
    → AllZip StandsFor (slice_set stores i now) (landed_layouts k (shapes_of stores) flats (into_field layout place writes))
field_stands k i layout place [] [] now writes stand at step = tt
field_stands k i layout place [] (flat ∷ flats) now writes stand at step = absurd stand
field_stands k i layout place (store ∷ stores) [] now writes stand at step = absurd stand
field_stands k zero layout place (store ∷ stores) (flat ∷ flats) now writes stand at step = (
  subst (λ (l : ℕ). StandsFor now (landed_layout l store.shape flat (into_field layout place writes))) (omega arith) (step store flat refl refl stand.0),
  others_stand (suc k) stores flats (into_field layout place writes) stand.1 (λ bounds l other row from below. none_into bounds layout place l other row writes (λ same. omega arith)),
)
field_stands k (suc i) layout place (store ∷ stores) (flat ∷ flats) now writes stand at step = (
  subst (λ (l : FlatLayout). StandsFor store l) (sym (layout_kept k store.shape flat (into_field layout place writes) stand.0.is_flat (λ other row. none_into (bounds_of_shape store.shape) layout place k other row writes (λ same. omega arith)))) stand.0,
  field_stands (suc k) i layout place stores flats now writes stand.1 (omega arith) step,
)

-- a store gets the values of a field
pub lands_field : (olds : List StoreWords) (layout place : ℕ) (old now : StoreWords) (writes : List Write) → slice_get olds layout ≡ Some old → now.shape ≡ old.shape
    → ((flat : FlatLayout) → StandsFor old flat → ((write : Write) → Contains writes write → write.layout ≡ layout → write.place ≡ place → Contains flat.active write.at) → StandsFor now (landed_layout layout old.shape flat (into_field layout place writes)))
    → Lands olds (slice_set olds layout now) (into_field layout place writes)
lands_field olds layout place old now writes is shape step = record {
  same_shapes = shapes_set olds layout old now is shape;
  stand = λ flats stand active.
      field_stands 0 layout layout place olds flats now writes stand (omega arith)
      (λ it flat is_it is_flat stands.
      let same : old ≡ it = same_Some _ _ (sym is ∙ is_it) in
      subst (λ (s : StoreWords). StandsFor now (landed_layout layout s.shape flat (into_field layout place writes))) same
      (step flat (subst (λ (s : StoreWords). StandsFor s flat) (sym same) stands)
      (λ write has at_layout at_place. active layout flat write is_flat (into_its layout place writes write has at_layout at_place) at_layout)));
}
  where
    into_its : (layout place : ℕ) (writes : List Write) (write : Write) → Contains writes write → write.layout ≡ layout → write.place ≡ place → Contains (into_field layout place writes) write
    into_its layout place writes write has at_layout at_place =
        into_filter (to_field layout place) writes write has (and_from (write.layout == layout) (write.place == place) (eq-eqb write.layout layout at_layout) (eq-eqb write.place place at_place))
