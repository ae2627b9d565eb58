-- The points of a box: which they are, and in which order.
use Rattle.std.proofs.Common.{◌≡◌, ℕ, suc, ◌<◌, ◌⊎◌, inl, inr, ℤ, pos, negsuc, ◌+ℤ◌, ◌-ℤ◌, ◌≤ℤ◌, ◌<ℤ◌, Bool, true, false, List, [], ◌∷◌, ◌++◌, map, length, get_or, refl, sym, ap, ◌∙◌, subst, arith, zero-add}
use Rattle.std.specs.Prelude.{All, AllPairs, Contains, nat_le}
use Rattle.std.specs.List.{flat_map}
use Rattle.std.proofs.lemmas.Int.{ints}
use Rattle.std.proofs.lemmas.List.Elements.{All-nil, All-map, All-weaker, All-append, All-contains, Contains-get_or, Contains-append_left, Contains-append_right, Contains-append_cases}
use Rattle.std.proofs.lemmas.List.Kept.{AllPairs-cons}
use Rattle.std.proofs.lemmas.List.FromFn.{length-map-range_with_len, get_or-map-range_with_len}
use Rattle.sg_words.proofs.Uses.{contains_none, contains_cases, into_map, from_map}
use Rattle.sg_coord.specs.declared.coord.Coord.{Coord}
use Rattle.sg_coord.specs.Coord.{count_of, ComesBefore}
use Rattle.sg_coord.proofs.Uses.{part_is, offset_below, same_parts}
use Rattle.sg_flat.specs.Domain.{numbers, parts_of, box_points}
use Rattle.sg_flat.specs.Laws.{IsPartOf, IsInBox, BoxIsRanges, BoxIsInOrder}

-- ---- lists made of lists
pub Contains-here : {X : Type 0} (x : X) (xs : List X) → Contains (x ∷ xs) x
Contains-here x xs = (0, omega arith, refl)

Contains-later : {X : Type 0} (x : X) (xs : List X) (y : X) → Contains xs y → Contains (x ∷ xs) y
Contains-later x xs y has = (suc has.0, omega (arith, has.1), has.2)

Contains-cases : {X : Type 0} (x : X) (xs : List X) (y : X) → Contains (x ∷ xs) y → (x ≡ y) ⊎ Contains xs y
Contains-cases x xs y has = contains_cases y x xs has

Contains-flat_map : {X Y : Type 0} (f : X → List Y) (xs : List X) (x : X) (y : Y) → Contains xs x → Contains (f x) y → Contains (flat_map f xs) y
Contains-flat_map f [] x y has has_y = absurd (contains_none x has)
Contains-flat_map f (z ∷ zs) x y has has_y = elim (Contains-cases z zs x has) [
  | inl same ↦ Contains-append_left (f z) (flat_map f zs) y (subst (λ w. Contains (f w) y) (sym same) has_y)
  | inr later ↦ Contains-append_right (f z) (flat_map f zs) y (Contains-flat_map f zs x y later has_y)
]

from_flat_map : {X Y : Type 0} (f : X → List Y) (xs : List X) (y : Y) → Contains (flat_map f xs) y → (x : X) × Contains xs x × Contains (f x) y
from_flat_map f [] y has = absurd (contains_none y has)
from_flat_map f (x ∷ xs) y has = elim (Contains-append_cases (f x) (flat_map f xs) y has) [
  | inl here ↦ (x, Contains-here x xs, here)
  | inr later ↦ (let found = from_flat_map f xs y later in (found.0, Contains-later x xs found.0 found.1, found.2))
]

AllPairs-head : {X : Type 0} (R : X → X → Type 0) (x : X) (xs : List X) → AllPairs R (x ∷ xs) → All (R x) xs
AllPairs-head R x xs all = λ k d below. all 0 (suc k) d (omega arith) (omega arith)

AllPairs-tail : {X : Type 0} (R : X → X → Type 0) (x : X) (xs : List X) → AllPairs R (x ∷ xs) → AllPairs R xs
AllPairs-tail R x xs all = λ i j d before below. all (suc i) (suc j) d (omega arith) (omega arith)

AllPairs-nil : {X : Type 0} (R : X → X → Type 0) → AllPairs R []
AllPairs-nil R = λ i j d before below. absurd (omega arith)

AllPairs-append : {X : Type 0} (R : X → X → Type 0) (xs ys : List X) → AllPairs R xs → AllPairs R ys → ((x y : X) → Contains xs x → Contains ys y → R x y) → AllPairs R (xs ++ ys)
AllPairs-append R [] ys first second across = second
AllPairs-append R (x ∷ xs) ys first second across =
    AllPairs-cons R x (xs ++ ys)
    (All-append (R x) xs ys (AllPairs-head R x xs first) (λ k d below. across x (get_or ys k d) (Contains-here x xs) (Contains-get_or ys k d below)))
    (AllPairs-append R xs ys (AllPairs-tail R x xs first) second (λ y z has. across y z (Contains-later x xs y has)))

AllPairs-map : {X Y : Type 0} (R : Y → Y → Type 0) (S : X → X → Type 0) (f : X → Y) (xs : List X) → ((x y : X) → S x y → R (f x) (f y)) → AllPairs S xs → AllPairs R (map f xs)
AllPairs-map R S f [] keeps all = AllPairs-nil R
AllPairs-map R S f (x ∷ xs) keeps all =
    AllPairs-cons R (f x) (map f xs)
    (All-map (R (f x)) f xs (All-weaker (S x) (λ y. R (f x) (f y)) (keeps x) xs (AllPairs-head S x xs all)))
    (AllPairs-map R S f xs keeps (AllPairs-tail S x xs all))

AllPairs-flat_map : {X Y : Type 0} (R : Y → Y → Type 0) (S : X → X → Type 0) (f : X → List Y) (xs : List X) → ((x : X) → AllPairs R (f x)) → ((x x' : X) (y y' : Y) → S x x' → Contains (f x) y → Contains (f x') y' → R y y') → AllPairs S xs → AllPairs R (flat_map f xs)
AllPairs-flat_map R S f [] each across all = AllPairs-nil R
AllPairs-flat_map R S f (x ∷ xs) each across all =
    AllPairs-append R (f x) (flat_map f xs) (each x) (AllPairs-flat_map R S f xs each across (AllPairs-tail S x xs all))
    (λ y y' has has'.
    let found = from_flat_map f xs y' has' in
    across x found.0 y y' (All-contains (S x) xs found.0 (AllPairs-head S x xs all) found.1) has found.2)

-- ---- the parts of an axis
above : (z : ℤ) (k : ℕ) → k < count_of z → pos k <ℤ z
above (pos m) k below = omega (arith, ints)
above (negsuc m) k below = absurd (omega arith)

number_at : (lo hi : ℤ) (k : ℕ) (d : ℤ) → k < count_of (hi -ℤ lo) → get_or (numbers lo hi) k d ≡ lo +ℤ pos k
number_at lo hi k d below = get_or-map-range_with_len (λ (m : ℕ). lo +ℤ pos m) 0 (count_of (hi -ℤ lo)) k k d below (zero-add k)

length-numbers : (lo hi : ℤ) → length (numbers lo hi) ≡ count_of (hi -ℤ lo)
length-numbers lo hi = length-map-range_with_len (λ (m : ℕ). lo +ℤ pos m) 0 (count_of (hi -ℤ lo))

in_numbers : (lo hi part : ℤ) → lo ≤ℤ part → part <ℤ hi → Contains (numbers lo hi) part
in_numbers lo hi part low high =
    let at = part_is (part -ℤ lo) (omega (arith, ints)) in
    let size = part_is (hi -ℤ lo) (omega (arith, ints)) in
    let below : count_of (part -ℤ lo) < count_of (hi -ℤ lo) =
    offset_below (part -ℤ lo) (count_of (hi -ℤ lo)) (omega (arith, ints)) (subst (λ z. (part -ℤ lo) <ℤ z) size (omega (arith, ints))) in
    let here : lo +ℤ pos (count_of (part -ℤ lo)) ≡ part = subst (λ z. (lo +ℤ z) ≡ part) at (omega (arith, ints)) in
    (count_of (part -ℤ lo), omega (arith, length-numbers lo hi), number_at lo hi (count_of (part -ℤ lo)) part below ∙ here)

from_numbers : (lo hi part : ℤ) → Contains (numbers lo hi) part → (lo ≤ℤ part) × (part <ℤ hi)
from_numbers lo hi part has =
    let below : has.0 < count_of (hi -ℤ lo) = omega (arith, length-numbers lo hi, has.1) in
    let is : lo +ℤ pos has.0 ≡ part = sym (number_at lo hi has.0 part below) ∙ has.2 in
    let under = above (hi -ℤ lo) has.0 below in
    (omega (arith, ints), omega (arith, ints))

numbers_rise : (lo hi : ℤ) → AllPairs ◌<ℤ◌ (numbers lo hi)
numbers_rise lo hi i j d before below =
    let last : j < count_of (hi -ℤ lo) = omega (arith, length-numbers lo hi) in
    let first_is = number_at lo hi i d (omega arith) in
    let last_is = number_at lo hi j d last in
    rw (first_is, last_is) (omega (arith, ints))

in_parts : (used : Bool) (lo hi part : ℤ) → IsPartOf used lo hi part → Contains (parts_of used lo hi) part
in_parts true lo hi part is = in_numbers lo hi part is.0 is.1
in_parts false lo hi part is = subst (λ z. Contains (pos 0 ∷ []) z) (sym is) (Contains-here (pos 0) [])

from_parts : (used : Bool) (lo hi part : ℤ) → Contains (parts_of used lo hi) part → IsPartOf used lo hi part
from_parts true lo hi part has = from_numbers lo hi part has
from_parts false lo hi part has = elim (Contains-cases (pos 0) [] part has) [
  | inl same ↦ sym same
  | inr none ↦ absurd (contains_none part none)
]

parts_rise : (used : Bool) (lo hi : ℤ) → AllPairs ◌<ℤ◌ (parts_of used lo hi)
parts_rise true lo hi = numbers_rise lo hi
parts_rise false lo hi = AllPairs-cons ◌<ℤ◌ (pos 0) [] (All-nil (λ z. pos 0 <ℤ z)) (AllPairs-nil ◌<ℤ◌)

-- ---- the points of a box
abbrev point_of : ℕ → ℤ → ℤ → ℤ → Coord
point_of n a b c = record { n = n; a = a; b = b; c = c }

abbrev a_parts : Coord → Coord → List ℤ
a_parts lo hi = parts_of (nat_le 1 lo.n) lo.a hi.a

abbrev b_parts : Coord → Coord → List ℤ
b_parts lo hi = parts_of (nat_le 2 lo.n) lo.b hi.b

abbrev c_parts : Coord → Coord → List ℤ
c_parts lo hi = parts_of (nat_le 3 lo.n) lo.c hi.c

-- the points with these first parts
abbrev with_ab : Coord → Coord → ℤ → ℤ → List Coord
with_ab lo hi a b = map (point_of lo.n a b) (c_parts lo hi)

abbrev with_a : Coord → Coord → ℤ → List Coord
with_a lo hi a = flat_map (with_ab lo hi a) (b_parts lo hi)

pub box_is_ranges : (lo hi : Coord) → BoxIsRanges lo hi
box_is_ranges lo hi at = (from, to)
  where
    from : Contains (box_points lo hi) at → IsInBox lo hi at
    from has =
        let in_a = from_flat_map (with_a lo hi) (a_parts lo hi) at has in
        let in_b = from_flat_map (with_ab lo hi in_a.0) (b_parts lo hi) at in_a.2 in
        let in_c = from_map (point_of lo.n in_a.0 in_b.0) (c_parts lo hi) at in_b.2 in
        subst (λ (p : Coord). IsInBox lo hi p) in_c.2 (record {
          same_axes = refl;
          a_part = from_parts (nat_le 1 lo.n) lo.a hi.a in_a.0 in_a.1;
          b_part = from_parts (nat_le 2 lo.n) lo.b hi.b in_b.0 in_b.1;
          c_part = from_parts (nat_le 3 lo.n) lo.c hi.c in_c.0 in_c.1;
        })

    to : IsInBox lo hi at → Contains (box_points lo hi) at
    to is =
        let same : point_of lo.n at.a at.b at.c ≡ at = same_parts (point_of lo.n at.a at.b at.c) at (sym is.same_axes) refl refl refl in
        let in_c : Contains (with_ab lo hi at.a at.b) at =
        subst (λ (p : Coord). Contains (with_ab lo hi at.a at.b) p) same (into_map (point_of lo.n at.a at.b) (c_parts lo hi) at.c (in_parts (nat_le 3 lo.n) lo.c hi.c at.c is.c_part)) in
        let in_b : Contains (with_a lo hi at.a) at =
        Contains-flat_map (with_ab lo hi at.a) (b_parts lo hi) at.b at (in_parts (nat_le 2 lo.n) lo.b hi.b at.b is.b_part) in_c in
        Contains-flat_map (with_a lo hi) (a_parts lo hi) at.a at (in_parts (nat_le 1 lo.n) lo.a hi.a at.a is.a_part) in_b

-- the first parts of a point
ab_of : (lo hi : Coord) (a b : ℤ) (at : Coord) → Contains (with_ab lo hi a b) at → (at.a ≡ a) × (at.b ≡ b)
ab_of lo hi a b at has =
    let found = from_map (point_of lo.n a b) (c_parts lo hi) at has in
    (sym (ap (λ (p : Coord). p.a) found.2), sym (ap (λ (p : Coord). p.b) found.2))

a_of : (lo hi : Coord) (a : ℤ) (at : Coord) → Contains (with_a lo hi a) at → at.a ≡ a
a_of lo hi a at has = let found = from_flat_map (with_ab lo hi a) (b_parts lo hi) at has in (ab_of lo hi a found.0 at found.2).0

pub box_is_in_order : (lo hi : Coord) → BoxIsInOrder lo hi
box_is_in_order lo hi =
    AllPairs-flat_map ComesBefore ◌<ℤ◌ (with_a lo hi) (a_parts lo hi)
    (λ a. AllPairs-flat_map ComesBefore ◌<ℤ◌ (with_ab lo hi a) (b_parts lo hi)
    (λ b. AllPairs-map ComesBefore ◌<ℤ◌ (point_of lo.n a b) (c_parts lo hi) (λ c c' less. inr (refl, inr (refl, less))) (parts_rise (nat_le 3 lo.n) lo.c hi.c))
    (λ b b' x y less has has'.
    let is = ab_of lo hi a b x has in
    let is' = ab_of lo hi a b' y has' in
    inr (is.0 ∙ sym is'.0, inl (subst (λ z. x.b <ℤ z) (sym is'.1) (subst (λ z. z <ℤ b') (sym is.1) less))))
    (parts_rise (nat_le 2 lo.n) lo.b hi.b))
    (λ a a' x y less has has'. inl (subst (λ z. x.a <ℤ z) (sym (a_of lo hi a' y has')) (subst (λ z. z <ℤ a') (sym (a_of lo hi a x has)) less)))
    (parts_rise (nat_le 1 lo.n) lo.a hi.a)
