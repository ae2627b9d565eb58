-- Parts of a list from one number up to below another.
use Rattle.std.proofs.Common.{◌≡◌, ℕ, zero, suc, ◌+◌, ◌-◌, ◌≤◌, List, [], ◌∷◌, length, take, drop, Some, sym, ap, ◌∙◌, subst, arith}
use Rattle.std.specs.Prelude.{Contains, slice_get}
use Rattle.std.proofs.lemmas.List.{take_all, take-take, drop-drop, drop-take, length-take, length-drop, take-append-drop}
use Rattle.std.proofs.lemmas.List.Elements.{Contains-append_left, Contains-append_right}
use Rattle.std.proofs.lemmas.Option.{same_Some}
use Rattle.sg_words.proofs.Uses.{contains_head, contains_rest}
use Rattle.sg_coord.specs.declared.coord.Coord.{Coord}
use Rattle.sg_exec.specs.steps.Racing.{between}

pub between_all : (points : List Coord) → between 0 (length points) points ≡ points
between_all points = take_all (length points - 0) points (omega arith)

pub between_long : (from to : ℕ) (points : List Coord) → from ≤ to → to ≤ length points → length (between from to points) ≡ to - from
between_long from to points order within =
    let long : length (take (to - from) (drop from points)) ≡ _ = length-take (to - from) (drop from points) in
    let rest : length (drop from points) ≡ length points - from = length-drop from points in
    omega (arith, long, rest, order, within)

-- what a part has from a number on
pub between_drop : (from to first : ℕ) (points : List Coord) → from + first ≤ to → drop first (between from to points) ≡ between (from + first) to points
between_drop from to first points within =
    ap (λ (n : ℕ). drop first (take n (drop from points))) (let whole : to - from ≡ first + (to - (from + first)) = omega (arith, within) in whole)
    ∙ drop-take first (to - (from + first)) (drop from points)
    ∙ ap (take (to - (from + first))) (drop-drop first from points)

-- a batch of it
pub between_batch : (from to first count : ℕ) (points : List Coord) → from + first + count ≤ to → take count (drop (from + first) points) ≡ take count (drop first (between from to points))
between_batch from to first count points within =
    sym (ap (take count) (between_drop from to first points (omega (arith, within)))
    ∙ take-take count (to - (from + first)) (drop (from + first) points) (omega (arith, within)))

-- its halves
pub between_left : (from mid to : ℕ) (points : List Coord) → mid ≤ to → between from mid points ≡ take (mid - from) (between from to points)
between_left from mid to points below = sym (take-take (mid - from) (to - from) (drop from points) (omega (arith, below)))

pub between_right : (from mid to : ℕ) (points : List Coord) → from ≤ mid → mid ≤ to → between mid to points ≡ drop (mid - from) (between from to points)
between_right from mid to points above below =
    let there : mid ≡ from + (mid - from) = omega (arith, above) in
    ap (λ (n : ℕ). between n to points) there ∙ sym (between_drop from to (mid - from) points (omega (arith, above, below)))

-- the rest is of the list
pub rest_among : (from : ℕ) (points : List Coord) (at : Coord) → Contains (drop from points) at → Contains points at
rest_among from points at has =
    subst (λ (l : List Coord). Contains l at) (take-append-drop from points) (Contains-append_right (take from points) (drop from points) at has)

-- the front is, too
pub front_among : (count : ℕ) (points : List Coord) (at : Coord) → Contains (take count points) at → Contains points at
front_among count points at has =
    subst (λ (l : List Coord). Contains l at) (take-append-drop count points) (Contains-append_left (take count points) (drop count points) at has)

-- what stands at a number in a list is in it
pub at_among : (points : List Coord) (k : ℕ) (at : Coord) → slice_get points k ≡ Some at → Contains points at
at_among [] k at is = absurd (cc)
at_among (first ∷ points) zero at is = contains_head at first points (same_Some _ _ is)
at_among (first ∷ points) (suc k) at is = contains_rest at first points (at_among points k at is)

-- the first one, if there is one
pub between_one : (n all : ℕ) (points : List Coord) → all ≡ length points → n ≤ 1 → n ≤ all → (1 ≤ all → 1 ≤ n) → between 0 n points ≡ take 1 points
between_one n all [] long one within some = ap (λ (k : ℕ). take k (drop 0 [])) (let none : n - 0 ≡ 0 = omega (arith, long, within) in none)
between_one n all (at ∷ points) long one within some =
    ap (λ (k : ℕ). take k (at ∷ points)) (let single : n - 0 ≡ 1 = omega (arith, one, some (let least : 1 ≤ all = omega (arith, long) in least)) in single)
