-- Paths along a row of next numbers, and what one change of the row leaves of them.
use Rattle.std.proofs.Common.{◌≡◌, ℕ, zero, suc, ◌+◌, ◌-◌, ◌<◌, List, [], ◌∷◌, ◌++◌, length, set, get_or, take, drop, refl, sym, ap, ◌∙◌, subst, arith}
use Rattle.std.proofs.lemmas.List.{get_or-set_same, get_or-set_other, take_more, take_all}
use Rattle.sg_links.specs.Lists.{times}
use Rattle.sg_links.specs.Heads.{numbers_along}
use Rattle.sg_links.specs.steps.Rows.{IsPath}
use Rattle.sg_links.proofs.Times.{none_apart}

-- a change of what comes after a number that is not on the path
pub path_set : (next : List ℕ) (x : ℕ) (xs : List ℕ) (end y v : ℕ) → IsPath next x xs end → times y xs ≡ 0 → IsPath (set next y v) x xs end
path_set next x [] end y v path none = path
path_set next x (z ∷ zs) end y v path none =
    let other = none_apart y z zs none in
    let stays : get_or (set next y v) x 0 ≡ get_or next x 0 = get_or-set_other next y x v 0 (λ e. other.0 (path.0 ∙ e)) in
    (path.0, subst (λ s. IsPath (set next y v) s zs end) (sym stays) (path_set next (get_or next x 0) zs end y v path.1 other.1))

-- the last number of a path leads on along another
pub path_join : (next : List ℕ) (x : ℕ) (front : List ℕ) (y end v : ℕ) (ys : List ℕ) (end2 : ℕ) → IsPath next x (front ++ y ∷ []) end → times y front ≡ 0 → y < length next → IsPath (set next y v) v ys end2 → IsPath (set next y v) x (front ++ y ∷ ys) end2
path_join next x [] y end v ys end2 path none below more =
    let leads : get_or (set next y v) x 0 ≡ v = ap (λ s. get_or (set next y v) s 0) (sym path.0) ∙ get_or-set_same next y v 0 below in
    (path.0, subst (λ s. IsPath (set next y v) s ys end2) (sym leads) more)
path_join next x (z ∷ zs) y end v ys end2 path none below more =
    let other = none_apart y z zs none in
    let stays : get_or (set next y v) x 0 ≡ get_or next x 0 = get_or-set_other next y x v 0 (λ e. other.0 (path.0 ∙ e)) in
    (path.0, subst (λ s. IsPath (set next y v) s (zs ++ y ∷ ys) end2) (sym stays) (path_join next (get_or next x 0) zs y end v ys end2 path.1 other.1 below more))

-- a walk finds the numbers of a path
pub walk_path : (next : List ℕ) (x : ℕ) (xs : List ℕ) (end : ℕ) → IsPath next x xs end → numbers_along next x (length xs) ≡ xs
walk_path next x [] end path = refl
walk_path next x (y ∷ ys) end path =
    ap (λ rest. x ∷ rest) (walk_path next (get_or next x 0) ys end path.1) ∙ ap (λ first. first ∷ ys) (sym path.0)

-- a path from one of its places on
pub path_drop : (next : List ℕ) (x : ℕ) (xs : List ℕ) (end k : ℕ) → IsPath next x xs end → k < length xs → IsPath next (get_or xs k 0) (drop k xs) end
path_drop next x [] end k path within = absurd (omega arith)
path_drop next x (y ∷ ys) end zero path within =
    (refl, subst (λ s. IsPath next (get_or next s 0) ys end) (sym path.0) path.1)
path_drop next x (y ∷ ys) end (suc k) path within = path_drop next (get_or next x 0) ys end k path.1 (omega arith)

-- if a list has numbers, it is what stands before the last, and the last
pub split_last : (xs : List ℕ) → 0 < length xs → xs ≡ take (length xs - 1) xs ++ get_or xs (length xs - 1) 0 ∷ []
split_last xs some =
    let n : ℕ = length xs - 1 in
    let all : take (n + 1) xs ≡ xs = take_all (n + 1) xs (omega arith) in
    sym all ∙ take_more xs n 0 (omega arith)
