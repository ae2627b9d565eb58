-- A store that is trimmed to the cells with words stands for the pruned layout, and one that is emptied for the opening layout.
use Rattle.std.proofs.Common.{◌≡◌, ℕ, ◌<◌, Bool, false, List, [], length, is_some, sym, ap, ◌∙◌, arith}
use Rattle.std.specs.List.{All, Contains}
use Rattle.std.proofs.lemmas.Bool.{false≢true}
use Rattle.std.proofs.lemmas.List.{append-nil}
use Rattle.sg_words.proofs.Uses.{from_filter, into_filter}
use Rattle.sg_coord.specs.declared.coord.Coord.{Coord}
use Rattle.sg_coord.specs.Coord.{Inside}
use Rattle.sg_layout.specs.Axes.{bounds_of_shape}
use Rattle.sg_layout.specs.Closure.{closure}
use Rattle.sg_layout.specs.Live.{is_live}
use Rattle.sg_layout.specs.LiveLaws.{LiveAbsorbs}
use Rattle.sg_flat.specs.declared.state.FlatLayout.{FlatLayout}
use Rattle.sg_flat.specs.State.{opening_layout}
use Rattle.sg_store.specs.declared.node.NodeWords.{NodeWords}
use Rattle.sg_store.specs.StoreWords.{StoreWords}
use Rattle.sg_store.specs.Walks.{cell_in}
use Rattle.sg_store.specs.WellFormed.{IsWellFormed, cell_count}
use Rattle.sg_store.specs.StandsFor.{StandsFor}
use Rattle.sg_store.specs.Pruning.{has_value, valued_coordinates, pruned}
use Rattle.sg_store.specs.steps.Fresh.{IsZeroRow}
use Rattle.sg_store.specs.steps.StorePlans.{has_word}
use Rattle.sg_store.proofs.ActiveCells.{cell_parts, from_some}
use Rattle.sg_store.proofs.Beginning.{OpeningLaws, opening_is_flat, nothing_live, opening_value}
use Rattle.sg_store.proofs.Pruned.{PruneLaws, words_are_values, pruned_is_flat}
use Rattle.sg_store.proofs.TrimmedStore.{with_words, TrimsStore, AreOfKept, SlotLaws, trimmed_live, cell_was_there}

-- the coordinates with values are those of the cells with words
pub valued_are_kept : (store : StoreWords) → PruneLaws store → IsWellFormed store → (flat : FlatLayout) → StandsFor store flat → AreOfKept store (has_word store) (valued_coordinates store.shape flat)
valued_are_kept store laws well flat stands = record {
  each = λ at has.
      let found = from_filter (has_value store.shape flat) flat.active at has in
      let cell = from_some (cell_in store at) ((laws.active well flat stands at).1 found.0) in
      (cell.0, cell.1, words_are_values store well flat stands at cell.0 cell.1 ∙ found.1);
  all = λ at cell leads some.
      into_filter (has_value store.shape flat) flat.active at ((laws.active well flat stands at).0 (ap is_some leads))
      (sym (words_are_values store well flat stands at cell leads) ∙ some);
}

valued_within : (store : StoreWords) → PruneLaws store → IsWellFormed store → (flat : FlatLayout) → StandsFor store flat → (at : Coord) → Contains (valued_coordinates store.shape flat) at → Inside (bounds_of_shape store.shape) at
valued_within store laws well flat stands at has =
    let led = (valued_are_kept store laws well flat stands).each at has in
    (laws.inside_test (bounds_of_shape store.shape) at).0 (cell_parts store at led.0 led.1).0

pub trimmed_stands : (store : StoreWords) (afters : List NodeWords) → PruneLaws store → SlotLaws store.shape → LiveAbsorbs store.shape → TrimsStore store afters (has_word store) → (flat : FlatLayout) → StandsFor store flat → StandsFor (with_words store afters store.fields) (pruned store.shape flat)
trimmed_stands store afters laws slots absorbs trims flat stands =
    let valued : List Coord = valued_coordinates store.shape flat in
    let of_kept = valued_are_kept store laws trims.well flat stands in
    let inside : (at : Coord) → Contains valued at → Inside (bounds_of_shape store.shape) at = valued_within store laws trims.well flat stands in
    record {
      is_flat = pruned_is_flat store laws flat stands.is_flat;
      live_slots = λ number slot is.
          trimmed_live store afters store.fields (has_word store) valued slots trims of_kept number slot is
          ∙ sym (ap (λ list. is_live store.shape list number slot) (sym (append-nil (closure store.shape valued)))
          ∙ absorbs valued [] inside number (record { first = is.first; within = is.within; sparse = is.has_activity }) slot
          ∙ ap (λ list. is_live store.shape list number slot) (append-nil valued));
      values = λ at cell leads place there.
          stands.values at cell (cell_was_there store afters store.fields (has_word store) trims at cell leads) place there;
    }

-- ── Nothing is kept ──

none_of_kept : (store : StoreWords) (cells : ℕ → Bool) → ((cell : ℕ) → cells cell ≡ false) → AreOfKept store cells []
none_of_kept store cells none = record {
  each = λ at has. absurd (omega (arith, has.1));
  all = λ at cell leads on. absurd (false≢true (sym (none cell) ∙ on));
}

pub emptied_stands : (store : StoreWords) (afters : List NodeWords) (fields : List (List ℕ)) (cells : ℕ → Bool) → OpeningLaws store.shape → SlotLaws store.shape → TrimsStore store afters cells → ((cell : ℕ) → cells cell ≡ false) → length fields ≡ length store.shape.fields → All (IsZeroRow (cell_count store.shape)) fields → StandsFor (with_words store afters fields) (opening_layout store.shape)
emptied_stands store afters fields cells laws slots trims none many zeros = record {
  is_flat = opening_is_flat store.shape laws;
  live_slots = λ number slot is.
      trimmed_live store afters fields cells [] slots trims (none_of_kept store cells none) number slot is
      ∙ sym (nothing_live store.shape number slot laws is);
  values = λ at cell leads place there.
      let in_fields : place < length fields = omega (arith, there, many) in
      (zeros place [] in_fields).zero cell ∙ sym (opening_value store.shape place at);
}
