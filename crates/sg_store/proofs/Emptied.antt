-- Rows that are emptied one after the other, and cells that hold words.
use Rattle.std.proofs.Common.{◌≡◌, ◌≢◌, ℕ, ◌+◌, ◌<◌, Bool, true, not, ◌==◌, List, [], length, drop, get_or, refl, sym, ap, ◌∙◌, subst, arith, inl, inr}
use Rattle.std.specs.Prelude.{slice_index, slice_index_or}
use Rattle.std.specs.List.{All}
use Rattle.std.proofs.lemmas.Bool.{cases_eq, false≢true, ne_eqb}
use Rattle.std.proofs.lemmas.List.{length-set, get_or-set_same, get_or-set_other, drop_all}
use Rattle.std.proofs.lemmas.List.Elements.{All-from_get_or, All-get_or}
use Rattle.std.proofs.lemmas.List.Folds.{Any-from_list_any, list_any_at}
use Rattle.sg_layout.specs.declared.shape.NodeShape.{NodeShape}
use Rattle.sg_store.specs.declared.node.NodeWords.{NodeWords}
use Rattle.sg_store.specs.StoreWords.{StoreWords}
use Rattle.sg_store.specs.WellFormed.{IsReached, IsWellFormed}
use Rattle.sg_store.specs.steps.Fresh.{IsZeroRow}
use Rattle.sg_store.specs.steps.Trimming.{kept_above}
use Rattle.sg_store.specs.steps.KeptWords.{in_row}
use Rattle.sg_store.specs.steps.StorePlans.{has_word, IsRowAt, EmptiesRow, AreEmptied}
use Rattle.sg_store.proofs.TrimmedStore.{AreKeptRows}

-- ── Rows of zeros ──

pub none_emptied : (rows : List (List ℕ)) → AreEmptied rows rows 0
none_emptied rows = record { many = refl; done = λ i below. absurd (omega (arith, below)); later = λ i from. refl }

pub one_emptied : (old rows next : List (List ℕ)) (i : ℕ) → i < length rows → AreEmptied old rows i → EmptiesRow rows next i → AreEmptied old next (i + 1)
one_emptied old rows next i within are one = record {
  many = ap length one.now_is ∙ length-set rows i one.row ∙ are.many;
  done = λ j below. elim (cases_eq j i) [
    | inl same ↦
        subst (λ k. IsZeroRow (length (slice_index_or old k [])) (slice_index_or next k [])) (sym same)
        (subst (λ (row : List ℕ). IsZeroRow (length (slice_index_or old i [])) row) (sym here)
        (subst (λ (row : List ℕ). IsZeroRow (length row) one.row) (are.later i (omega arith)) one.zeros))
    | inr apart ↦
        subst (λ (row : List ℕ). IsZeroRow (length (slice_index_or old j [])) row) (sym (elsewhere j apart)) (are.done j (omega (arith, below, apart)))
  ];
  later = λ j from. elsewhere j (omega (arith, from)) ∙ are.later j (omega (arith, from));
}
  where
    here : slice_index_or next i [] ≡ one.row
    here = ap (λ (rs : List (List ℕ)). slice_index_or rs i []) one.now_is ∙ get_or-set_same rows i one.row [] within

    elsewhere : (j : ℕ) → j ≢ i → slice_index_or next j [] ≡ slice_index_or rows j []
    elsewhere j apart = ap (λ (rs : List (List ℕ)). slice_index_or rs j []) one.now_is ∙ get_or-set_other rows i j one.row [] apart

pub all_emptied : (old now : List (List ℕ)) (cells : ℕ) → AreEmptied old now (length old) → All (λ (row : List ℕ). length row ≡ cells) old → All (IsZeroRow cells) now
all_emptied old now cells are long =
    All-from_get_or (IsZeroRow cells) now []
    (λ i below.
    let low : i < length old = omega (arith, below, are.many) in
    subst (λ n. IsZeroRow n (get_or now i [])) (All-get_or (λ (row : List ℕ). length row ≡ cells) old i [] low long) (are.done i low))

-- ── Cells ──

-- a cell in which some field has a word is reached
pub word_reached : (store : StoreWords) → IsWellFormed store → (cell : ℕ) → has_word store cell ≡ true → IsReached store cell
word_reached store well cell some =
    let found = Any-from_list_any (λ (row : List ℕ). not (slice_index row cell == 0)) store.fields some in
    (well.rows_fit found.0 found.1 found.2).only_reached cell
    (λ none. false≢true (sym (ap (λ (n : ℕ). not (n == 0)) none) ∙ ap (λ (row : List ℕ). not (slice_index row cell == 0)) found.3 ∙ found.4))

-- each word of the fields stands in such a cell
pub words_kept : (store : StoreWords) → IsWellFormed store → AreKeptRows store (has_word store) store.fields
words_kept store well k d below =
    let row : List ℕ = get_or store.fields k d in (
      (well.rows_fit k d below).cells,
      λ cell some. list_any_at (λ (r : List ℕ). not (slice_index r cell == 0)) store.fields k d below (ap not (ne_eqb (slice_index row cell) 0 some)),
    )

-- the row of cells is that below the last node
pub row_below : (nodes : List NodeShape) (words : List NodeWords) (cells : ℕ → Bool) (row : List Bool) → ((cell : ℕ) → in_row row cell ≡ cells cell) → IsRowAt nodes words cells (length nodes) row
row_below nodes words cells row is place =
    is place ∙ sym (ap (λ (ns : List NodeShape). kept_above ns (drop (length nodes) words) cells place) (drop_all (length nodes) nodes (omega arith)))
