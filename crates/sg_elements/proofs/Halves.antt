-- The row numbers below a part of a level: in order, joined, and all of them.
use Rattle.std.proofs.Common.{◌≡◌, ℕ, suc, ◌≤◌, List, ◌++◌, length, map, Result, Ok, Err, Vec, Global, sym, ap, ◌∙◌, subst, append_assoc}
use Rattle.std.specs.Result.{IfOk}
use Rattle.std.specs.List.Sorted.{IsPermutation}
use Rattle.std.proofs.lemmas.List.Sorted.{IsPermutation-trans, IsPermutation-append_left, IsPermutation-append_right}
use Rattle.sg_store.specs.StoreWords.{StoreWords}
use Rattle.sg_elements.specs.declared.branches.Branch.{Branch}
use Rattle.sg_elements.specs.steps.Levels.{AreBranches, AreRowsBetween, level_at, row_along, rows_upto, walk_rows}
use Rattle.sg_elements.proofs.Growing.{taken_all}

-- in order
pub sorted_between : (store : StoreWords) (node from to : ℕ) (rows sorted : List ℕ) → rows_upto store node to ≡ rows_upto store node from ++ rows → IsPermutation rows sorted → AreRowsBetween store node from to sorted
sorted_between store node from to rows sorted all mixed =
    subst (λ (list : List ℕ). IsPermutation list (rows_upto store node from ++ sorted)) (sym all) (IsPermutation-append_right (rows_upto store node from) rows sorted mixed)

-- one part after another
pub joined_between : (store : StoreWords) (node from middle to : ℕ) (rows others : List ℕ) → AreRowsBetween store node from middle rows → AreRowsBetween store node middle to others → AreRowsBetween store node from to (rows ++ others)
joined_between store node from middle to rows others left right =
    subst (IsPermutation (rows_upto store node to)) (append_assoc (rows_upto store node from) rows others)
    (IsPermutation-trans _ _ _ right (IsPermutation-append_left others (rows_upto store node middle) (rows_upto store node from ++ rows) left))

-- all of the last level
pub whole_between : (store : StoreWords) (node to : ℕ) (level : List Branch) → AreBranches store node level (level_at store node) → length level ≤ to → suc node ≡ length store.shape.nodes → rows_upto store node to ≡ walk_rows store
whole_between store node to level are past last =
    ap (map (row_along store.shape)) (taken_all store node to level are past) ∙ ap (λ (n : ℕ). map (row_along store.shape) (level_at store n)) last

pub if_ok_whole : {E : Type 0} (store : StoreWords) (node to : ℕ) (r : Result (Vec ℕ Global) E) → rows_upto store node to ≡ walk_rows store
    → IfOk r (λ (rows : Vec ℕ Global). rows_upto store node to ≡ rows_upto store node 0 ++ rows.items) → IfOk r (λ (rows : Vec ℕ Global). rows.items ≡ walk_rows store)
if_ok_whole store node to (Ok rows) whole all = sym all ∙ whole
if_ok_whole store node to (Err e) whole all = tt

pub if_ok_mixed : {E : Type 0} (store : StoreWords) (node to : ℕ) (r : Result (Vec ℕ Global) E) → rows_upto store node to ≡ walk_rows store
    → IfOk r (λ (rows : Vec ℕ Global). AreRowsBetween store node 0 to rows.items) → IfOk r (λ (rows : Vec ℕ Global). IsPermutation (walk_rows store) rows.items)
if_ok_mixed store node to (Ok rows) whole between = subst (λ (list : List ℕ). IsPermutation list rows.items) whole between
if_ok_mixed store node to (Err e) whole between = tt
