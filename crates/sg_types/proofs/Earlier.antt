-- The place of a thing in a list, and looking it up among the first of the list.
use Rattle.std.proofs.Common.{◌≡◌, ℕ, zero, suc, ◌<◌, ◌≤◌, Bool, true, false, nat_lt, List, [], ◌∷◌, length, take, find, position, Some, None, refl, arith}
use Rattle.std.proofs.lemmas.Bool.Decides.{nat_tests}
use Rattle.std.specs.List.{position_or_len}

module _ {X : Type 0} (test : X → Bool) (n : ℕ) (x : X) (xs : List X) where
  before_at : (b : Bool) → test x ≡ b → (position_or_len test xs < n → find test (take n xs) ≡ find test xs)
      → position_or_len test (x ∷ xs) < suc n → find test (take (suc n) (x ∷ xs)) ≡ find test (x ∷ xs)
  before_at true e below h = rw e refl
  before_at false e below h = let g = rw e at h in rw e (below (omega arith))

  after_at : (b : Bool) → test x ≡ b → (n ≤ position_or_len test xs → find test (take n xs) ≡ None)
      → suc n ≤ position_or_len test (x ∷ xs) → find test (take (suc n) (x ∷ xs)) ≡ None
  after_at true e below h = let g = rw e at h in absurd (omega arith)
  after_at false e below h = let g = rw e at h in rw e (below (omega arith))

  absent_at : (b : Bool) → test x ≡ b → (length xs ≤ position_or_len test xs → find test (take n xs) ≡ None)
      → length (x ∷ xs) ≤ position_or_len test (x ∷ xs) → find test (take (suc n) (x ∷ xs)) ≡ None
  absent_at true e below h = let g = rw e at h in absurd (omega arith)
  absent_at false e below h = let g = rw e at h in rw e (below (omega arith))

find-take_before : {X : Type 0} (test : X → Bool) (n : ℕ) (xs : List X) → position_or_len test xs < n → find test (take n xs) ≡ find test xs
find-take_before test zero xs h = absurd (omega arith)
find-take_before test (suc n) [] h = refl
find-take_before test (suc n) (x ∷ xs) h = before_at test n x xs (test x) refl (find-take_before test n xs) h

find-take_after : {X : Type 0} (test : X → Bool) (n : ℕ) (xs : List X) → n ≤ position_or_len test xs → find test (take n xs) ≡ None
find-take_after test zero xs h = refl
find-take_after test (suc n) [] h = refl
find-take_after test (suc n) (x ∷ xs) h = after_at test n x xs (test x) refl (find-take_after test n xs) h

find-take_absent : {X : Type 0} (test : X → Bool) (n : ℕ) (xs : List X) → length xs ≤ position_or_len test xs → find test (take n xs) ≡ None
find-take_absent test zero xs h = refl
find-take_absent test (suc n) [] h = refl
find-take_absent test (suc n) (x ∷ xs) h = absent_at test n x xs (test x) refl (find-take_absent test n xs) h

module _ {X : Type 0} (test : X → Bool) (xs : List X) where
  place_at : (k : ℕ) (b : Bool) → nat_lt (position_or_len test xs) (length xs) ≡ b → position test xs ≡ Some k → position_or_len test xs ≡ k
  place_at k true e h = let k_is : Some (position_or_len test xs) ≡ Some k = rw e at h in cc
  place_at k false e h = let none_is : None ≡ Some k = rw e at h in cc

  no_place_at : (b : Bool) → nat_lt (position_or_len test xs) (length xs) ≡ b → position test xs ≡ None → length xs ≤ position_or_len test xs
  no_place_at true e h = let some_is : Some (position_or_len test xs) ≡ None = rw e at h in cc
  no_place_at false e h = grind (arith, nat_tests)

module _ {X : Type 0} (test : X → Bool) (n : ℕ) (xs : List X) where
  -- it is found among the first n exactly when its place is below n
  pub find-take_below : (k : ℕ) → position test xs ≡ Some k → k < n → find test (take n xs) ≡ find test xs
  find-take_below k h below =
      find-take_before test n xs (omega (arith, place_at test xs k (nat_lt (position_or_len test xs) (length xs)) refl h))

  pub find-take_past : (k : ℕ) → position test xs ≡ Some k → n ≤ k → find test (take n xs) ≡ None
  find-take_past k h past =
      find-take_after test n xs (omega (arith, place_at test xs k (nat_lt (position_or_len test xs) (length xs)) refl h))

  pub find-take_none : position test xs ≡ None → find test (take n xs) ≡ None
  find-take_none h = find-take_absent test n xs (no_place_at test xs (nat_lt (position_or_len test xs) (length xs)) refl h)
