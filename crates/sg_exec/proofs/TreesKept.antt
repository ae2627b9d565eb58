-- Lists of stores with the same trees.
use Rattle.std.proofs.Common.{◌≡◌, ℕ, zero, suc, ◌<◌, ◌≤◌, List, [], ◌∷◌, ◌++◌, length, get_or, Option, Some, None, refl, sym, ap, ◌∙◌, subst, arith}
use Rattle.std.specs.Prelude.{slice_get, slice_set, unwrap_or, IfSome}
use Rattle.std.proofs.lemmas.Option.{same_Some}
use Rattle.sg_layout.specs.declared.shape.Shape.{Shape}
use Rattle.sg_store.specs.StoreWords.{StoreWords, word_in}
use Rattle.sg_exec.specs.declared.lanes.cell_write.CellWrite.{CellWrite}
use Rattle.sg_exec.specs.declared.results.sums.Sum.{Sum}
use Rattle.sg_exec.specs.Standing.{shapes_of}
use Rattle.sg_exec.specs.steps.Machines.{IsCellOf, AreCells}
use Rattle.sg_exec.specs.steps.Landing.{current, HasTree}
use Rattle.sg_exec.specs.steps.Made.{HaveTrees, KeepsField, HasRow, words_of}
use Rattle.sg_exec.proofs.CellsLanded.{tree_then, tree_shape, reached_tree}
use Rattle.sg_exec.proofs.SumsPut.{row_tree}

pub trees_itself : (stores : List StoreWords) → HaveTrees stores stores
trees_itself [] = tt
trees_itself (store ∷ stores) = (refl, trees_itself stores)

pub trees_then : (olds mids news : List StoreWords) → HaveTrees olds mids → HaveTrees mids news → HaveTrees olds news
trees_then [] [] [] first second = tt
trees_then [] [] (new ∷ news) first second = absurd second
trees_then [] (mid ∷ mids) news first second = absurd first
trees_then (old ∷ olds) [] news first second = absurd first
trees_then (old ∷ olds) (mid ∷ mids) [] first second = absurd second
trees_then (old ∷ olds) (mid ∷ mids) (new ∷ news) first second = (tree_then old mid new first.0 second.0, trees_then olds mids news first.1 second.1)

pub trees_long : (olds nows : List StoreWords) → HaveTrees olds nows → length olds ≡ length nows
trees_long [] [] trees = refl
trees_long [] (now ∷ nows) trees = absurd trees
trees_long (old ∷ olds) [] trees = absurd trees
trees_long (old ∷ olds) (now ∷ nows) trees = ap suc (trees_long olds nows trees.1)

-- the store that one was
pub tree_there : (olds nows : List StoreWords) (i : ℕ) (now : StoreWords) → HaveTrees olds nows → slice_get nows i ≡ Some now → (old : StoreWords) × ((slice_get olds i ≡ Some old) × HasTree old now)
tree_there olds [] i now trees at = absurd (cc)
tree_there [] (first ∷ nows) i now trees at = absurd trees
tree_there (old ∷ olds) (first ∷ nows) zero now trees at = (old, (refl, subst (HasTree old) (same_Some _ _ at) trees.0))
tree_there (old ∷ olds) (first ∷ nows) (suc i) now trees at = tree_there olds nows i now trees.1 at

-- and what it has become
pub tree_become : (olds nows : List StoreWords) (i : ℕ) (old : StoreWords) → HaveTrees olds nows → slice_get olds i ≡ Some old → (now : StoreWords) × ((slice_get nows i ≡ Some now) × HasTree old now)
tree_become [] nows i old trees at = absurd (cc)
tree_become (first ∷ olds) [] i old trees at = absurd trees
tree_become (first ∷ olds) (now ∷ nows) zero old trees at = (now, (refl, subst (λ (s : StoreWords). HasTree s now) (same_Some _ _ at) trees.0))
tree_become (first ∷ olds) (now ∷ nows) (suc i) old trees at = tree_become olds nows i old trees.1 at

pub trees_set : (stores : List StoreWords) (i : ℕ) (old now : StoreWords) → slice_get stores i ≡ Some old → HasTree old now → HaveTrees stores (slice_set stores i now)
trees_set [] i old now at tree = absurd (cc)
trees_set (first ∷ stores) zero old now at tree = (subst (λ (s : StoreWords). HasTree s now) (sym (same_Some _ _ at)) tree, trees_itself stores)
trees_set (first ∷ stores) (suc i) old now at tree = (refl, trees_set stores i old now at tree)

pub set_other : {A : Type 0} (xs : List A) (i j : ℕ) (x : A) → (i ≡ j → ⊥) → slice_get (slice_set xs i x) j ≡ slice_get xs j
set_other [] i j x apart = refl
set_other (y ∷ xs) zero zero x apart = absurd (apart refl)
set_other (y ∷ xs) zero (suc j) x apart = refl
set_other (y ∷ xs) (suc i) zero x apart = refl
set_other (y ∷ xs) (suc i) (suc j) x apart = set_other xs i j x (λ same. apart (ap suc same))

pub trees_shapes : (olds nows : List StoreWords) → HaveTrees olds nows → shapes_of nows ≡ shapes_of olds
trees_shapes [] [] trees = refl
trees_shapes [] (now ∷ nows) trees = absurd trees
trees_shapes (old ∷ olds) [] trees = absurd trees
trees_shapes (old ∷ olds) (now ∷ nows) trees =
    ap (λ (s : Shape). s ∷ shapes_of nows) (tree_shape old now trees.0) ∙ ap (λ (ss : List Shape). old.shape ∷ ss) (trees_shapes olds nows trees.1)

-- ---- rows and cells of stores with the same trees

pub row_over : (olds nows : List StoreWords) (sum : Sum) → HaveTrees olds nows → HasRow olds sum → HasRow nows sum
row_over olds nows sum trees row = λ now at.
    let found = tree_there olds nows sum.layout now trees at in
    let both = row found.0 found.1.0 in
    (subst (λ (s : Shape). sum.field < length s.fields) (sym (tree_shape found.0 now found.1.1)) both.0, row_tree found.0 now (words_of sum) found.1.1 both.1)

pub cell_over : (olds nows : List StoreWords) (layout : ℕ) (cell : Option ℕ) → HaveTrees olds nows → IfSome cell (IsCellOf olds layout) → IfSome cell (IsCellOf nows layout)
cell_over olds nows layout None trees of = tt
cell_over olds nows layout (Some cell) trees of =
    let found = tree_become olds nows layout of.store trees of.there in
    record { store = found.0; there = found.1.0; reached = reached_tree of.store found.0 (Some cell) found.1.1 of.reached }

pub cells_over : (olds nows : List StoreWords) (writes : List CellWrite) → HaveTrees olds nows → AreCells olds writes → AreCells nows writes
cells_over olds nows writes trees cells = λ k d below. cell_over olds nows (get_or writes k d).layout (get_or writes k d).cell trees (cells k d below)

-- ---- the store with a number

pub past_none : {A : Type 0} (xs : List A) (i : ℕ) → length xs ≤ i → slice_get xs i ≡ None
past_none [] i past = refl
past_none (x ∷ xs) zero past = absurd (omega (arith, past))
past_none (x ∷ xs) (suc i) past = past_none xs i (omega (arith, past))

pub keeps_itself : (stores : List StoreWords) (layout field : ℕ) → KeepsField stores stores layout field
keeps_itself stores layout field = λ old now at also cell. ap (λ (s : StoreWords). word_in s field cell) (same_Some _ _ (sym also ∙ at))

-- ---- copies in the places of stores, from the last

pub current_last : (copies : List (Option StoreWords)) (stores : List StoreWords) (copy : Option StoreWords) (store : StoreWords) → length copies ≡ length stores
    → current (copies ++ copy ∷ []) (stores ++ store ∷ []) ≡ current copies stores ++ unwrap_or copy store ∷ []
current_last [] [] copy store same = refl
current_last [] (head ∷ stores) copy store same = absurd (omega (arith, same))
current_last (first ∷ copies) [] copy store same = absurd (omega (arith, same))
current_last (first ∷ copies) (head ∷ stores) copy store same = ap (λ (rest : List StoreWords). unwrap_or first head ∷ rest) (current_last copies stores copy store (omega (arith, same)))

pub current_none : (copies : List (Option StoreWords)) (stores : List StoreWords) → stores ≡ [] → current copies stores ≡ []
current_none [] stores none = none
current_none (copy ∷ copies) [] none = refl
current_none (copy ∷ copies) (store ∷ stores) none = absurd (cc)
