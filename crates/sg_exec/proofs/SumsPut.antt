-- What a pass has made of a field, put into a store.
use Rattle.std.proofs.Common.{◌≡◌, ◌≢◌, ℕ, zero, suc, ◌+◌, ◌<◌, ◌^◌, List, [], ◌∷◌, ◌++◌, length, take, get_or, Some, refl, sym, ap, ◌∙◌, subst, arith}
use Rattle.std.specs.Prelude.{fold, slice_get, slice_set, slice_index, slice_index_or}
use Rattle.std.specs.List.{concat}
use Rattle.std.proofs.lemmas.List.{append-nil, take_more}
use Rattle.std.proofs.lemmas.List.Folds.{concat-append}
use Rattle.std.proofs.lemmas.Option.{same_Some}
use Rattle.sg_words.specs.Words.{folded}
use Rattle.sg_coord.specs.declared.coord.Coord.{Coord}
use Rattle.sg_coord.specs.Laws.{RowBelow}
use Rattle.sg_layout.specs.ClosureLaws.{ClosureIsOfMembers, ClosureIsInside}
use Rattle.sg_flat.specs.declared.effects.Write.{Write}
use Rattle.sg_flat.specs.declared.state.FlatLayout.{FlatLayout}
use Rattle.sg_flat.proofs.Uses.{RunLaws}
use Rattle.sg_accum.specs.Folding.{old_values, operator_of, type_of, AreFolded}
use Rattle.sg_store.specs.StoreWords.{StoreWords, word_in}
use Rattle.sg_store.specs.Walks.{cell_in}
use Rattle.sg_store.specs.WellFormed.{IsReached, IsWellFormed}
use Rattle.sg_store.specs.StandsFor.{StandsFor}
use Rattle.sg_store.specs.StoreLaws.{CellsAreActive, CellsDiffer}
use Rattle.sg_store.specs.Rows.{IsFieldFront, put_over, SetsRow}
use Rattle.sg_exec.specs.declared.results.shared.Accumulated.{Accumulated}
use Rattle.sg_exec.specs.steps.Machines.{IsCellOf}
use Rattle.sg_exec.specs.steps.Landing.{landed_layout, HasTree}
use Rattle.sg_exec.specs.steps.Racing.{IsPassOf}
use Rattle.sg_exec.specs.steps.Passes.{into_field, with_row, IsSumOf, AreActiveTo}
use Rattle.sg_exec.proofs.SumStands.{EndedPass, sets}

-- ---- the row

index_low : (words : List ℕ) (cell : ℕ) → slice_index words cell ≢ 0 → cell < length words
index_low [] cell some = absurd (some refl)
index_low (word ∷ words) zero some = omega arith
index_low (word ∷ words) (suc cell) some = let later = index_low words cell some in omega (arith, later)

reached_of : (stores : List StoreWords) (it : Accumulated) (pass : IsPassOf stores it) (cell : ℕ) → IsCellOf stores it.layout cell → IsReached pass.store cell
reached_of stores it pass cell is = subst (λ (s : StoreWords). IsReached s cell) (same_Some _ _ (sym is.there ∙ pass.there)) is.reached

-- what a pass has made of a field is the front of a row of its store
pub sum_row : (stores : List StoreWords) (it : Accumulated) (pass : IsPassOf stores it) (given : ℕ → List ℕ) (words : List ℕ) → AreFolded (operator_of it.pass) (type_of it.pass) (old_values it.pass) given words
    → ((cell : ℕ) → given cell ≢ [] → IsCellOf stores it.layout cell) → IsFieldFront pass.store words
sum_row stores it pass given words folds reached = record {
  cells = omega (arith, folds.long, pass.is_front.cells);
  only_reached = λ cell some. by cell some (given cell) refl;
  all_reached = λ cell reached. omega (arith, folds.long, pass.is_front.all_reached cell reached);
}
  where
    by : (cell : ℕ) → slice_index words cell ≢ 0 → (values : List ℕ) → given cell ≡ values → IsReached pass.store cell
    by cell some (value ∷ more) is = reached_of stores it pass cell (reached cell (λ none. let no : value ∷ more ≡ [] = sym is ∙ none in absurd (cc (no))))
    by cell some [] is =
        let low : cell < length (old_values it.pass) = (let within = index_low words cell some in let long = folds.long in omega (arith, within, long)) in
        let same : slice_index words cell ≡ slice_index (old_values it.pass) cell = folds.folds cell low ∙ ap (fold (folded (operator_of it.pass) (type_of it.pass)) (slice_index (old_values it.pass) cell)) is in
        pass.is_front.only_reached cell (λ zero_is. some (same ∙ zero_is))

-- ---- words below 2^32

abbrev AreLow : List ℕ → Type 0
AreLow words = (k : ℕ) → slice_index words k < 2 ^ 32

low_both : (words more : List ℕ) → AreLow words → AreLow more → (k : ℕ) → slice_index (words ++ more) k < 2 ^ 32
low_both [] more front back k = back k
low_both (word ∷ words) more front back zero = front zero
low_both (word ∷ words) more front back (suc k) = low_both words more (λ j. front (suc j)) back k

pub no_low : AreLow (concat [])
no_low = λ k. omega arith

-- one part more
pub low_more : (parts : List (List ℕ)) (i : ℕ) (part d : List ℕ) → i < length parts → part ≡ get_or parts i d → AreLow (concat (take i parts)) → AreLow part → AreLow (concat (take (i + 1) parts))
low_more parts i part d below is front low =
    let more : concat (take (i + 1) parts) ≡ concat (take i parts) ++ part =
    ap concat (take_more parts i d below) ∙ concat-append (take i parts) (get_or parts i d ∷ []) ∙ ap (λ (words : List ℕ). concat (take i parts) ++ words) (append-nil (get_or parts i d) ∙ sym is) in
    subst (λ (words : List ℕ). AreLow words) (sym more) (low_both (concat (take i parts)) part front low)

-- ---- trees

tree_back : (store copy : StoreWords) (cell : ℕ) → HasTree store copy → IsReached copy cell → IsReached store cell
tree_back store copy cell tree is = back (subst (λ (s : StoreWords). IsReached s cell) tree is)
  where
    back : IsReached (record store { fields = copy.fields }) cell → IsReached store cell
    back there = record { slot = there.slot; is_slot = there.is_slot; leads = there.leads }

row_with : (store : StoreWords) (fields : List (List ℕ)) (words : List ℕ) → IsFieldFront store words → IsFieldFront (record store { fields = fields }) words
row_with store fields words row = record {
  cells = row.cells;
  only_reached = λ cell some. let is = row.only_reached cell some in record { slot = is.slot; is_slot = is.is_slot; leads = is.leads };
  all_reached = λ cell is. row.all_reached cell (record { slot = is.slot; is_slot = is.is_slot; leads = is.leads });
}

pub row_tree : (store copy : StoreWords) (words : List ℕ) → HasTree store copy → IsFieldFront store words → IsFieldFront copy words
row_tree store copy words tree row = subst (λ (s : StoreWords). IsFieldFront s words) (sym tree) (row_with store copy.fields words row)

pub tree_row : (store copy : StoreWords) (field : ℕ) (words : List ℕ) → HasTree store copy → HasTree store (with_row copy field words)
tree_row store copy field words tree = ap (λ (s : StoreWords). record s { fields = slice_set copy.fields field (put_over words (slice_index_or copy.fields field [])) }) tree

-- ---- the store that gets the row

module _ (stores : List StoreWords) (layout field : ℕ) (words : List ℕ) (writes : List Write) (is : IsSumOf stores layout field words writes) (base copy : StoreWords) (at : slice_get stores layout ≡ Some base) (tree : HasTree base copy)
    (fresh : (cell : ℕ) → word_in copy field cell ≡ word_in base field cell) (small : (cell : ℕ) → slice_index words cell < 2 ^ 32) where
  same_store : is.pass.store ≡ base
  same_store = same_Some _ _ (sym is.pass.there ∙ ap (slice_get stores) is.layout_is ∙ at)

  tree_of : HasTree is.pass.store copy
  tree_of = subst (λ (s : StoreWords). HasTree s copy) (sym same_store) tree

  abbrev ended : EndedPass stores is.it copy words is.given writes
  ended = record {
    pass = is.pass;
    tree = tree_of;
    fresh = λ cell.
        ap (λ (p : ℕ). word_in copy p cell) is.field_is ∙ fresh cell ∙ ap (λ (p : ℕ). word_in base p cell) (sym is.field_is) ∙ ap (λ (s : StoreWords). word_in s is.it.field cell) (sym same_store);
    ways = is.is_given.ways;
    given_is = is.is_given.given_is;
    folds = is.folds;
    small = small;
  }

  pub sum_sets : RunLaws copy.shape → RowBelow → ClosureIsOfMembers copy.shape → ClosureIsInside copy.shape → CellsAreActive copy → CellsDiffer copy → IsWellFormed copy → (flat : FlatLayout) → StandsFor copy flat → AreActiveTo flat layout field writes
      → ((x : Coord) (cell : ℕ) → cell_in copy x ≡ Some cell → IsReached copy cell) → SetsRow copy flat (landed_layout layout copy.shape flat (into_field layout field writes)) field words
  sum_sets laws below of_members inside active_law differ_law well flat stands active reached =
      let raw = sets stores is.it copy words is.given writes ended laws below of_members inside active_law differ_law well flat stands
      (λ write has layouts fields. active write has (layouts ∙ is.layout_is) (fields ∙ is.field_is))
      (λ x cell e. tree_back is.pass.store copy cell tree_of (reached x cell e)) in
      subst (λ (l : ℕ). SetsRow copy flat (landed_layout l copy.shape flat (into_field l field writes)) field words) is.layout_is
      (subst (λ (p : ℕ). SetsRow copy flat (landed_layout is.it.layout copy.shape flat (into_field is.it.layout p writes)) p words) is.field_is raw)

-- ---- the other fields

pub index_other : (fields : List (List ℕ)) (k j : ℕ) (words : List ℕ) → (j ≡ k → ⊥) → slice_index_or (slice_set fields k words) j [] ≡ slice_index_or fields j []
index_other [] k j words apart = refl
index_other (field ∷ fields) zero zero words apart = absurd (apart refl)
index_other (field ∷ fields) zero (suc j) words apart = refl
index_other (field ∷ fields) (suc k) zero words apart = refl
index_other (field ∷ fields) (suc k) (suc j) words apart = index_other fields k j words (λ same. apart (ap suc same))
