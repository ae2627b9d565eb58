use Rattle.std.specs.Prelude.{◌≡◌, ◌⊎◌, ℕ, ◌+◌, ◌-◌, ◌^◌, ◌<◌, ◌≤◌, ◌==◌, Bool, true, false, List, [], ◌∷◌, min, refl}
use Rattle.std.specs.List.{list_any}
use Rattle.std.proofs.Common.{inl, inr, lit<, lit≤}

-- the last value of a kept count
abbrev pub last_count : ℕ
last_count = 2 ^ 64 - 1

-- a kept count after one more: it stays at its last value
abbrev pub one_more : ℕ → ℕ
one_more n = min (n + 1) last_count

one_more_of_none : one_more 0 ≡ 1
one_more_of_none = refl

one_more_at_last : one_more last_count ≡ last_count
one_more_at_last = refl

-- a count rose in a call: it is greater afterwards, or stands at its last value
abbrev pub Rose : ℕ → ℕ → Type 0
Rose before now = (before < now) ⊎ (last_count ≤ now)

rose_by_one : Rose 2 3
rose_by_one = inl (lit< tt)

rose_at_last : Rose last_count last_count
rose_at_last = inr (lit≤ tt)

-- the number of a call is among the listed ones
abbrev pub is_listed : ℕ → List ℕ → Bool
is_listed number listed = list_any (λ other. other == number) listed

is_listed_second : is_listed 3 (1 ∷ 3 ∷ []) ≡ true
is_listed_second = refl

is_listed_not : is_listed 2 (1 ∷ 3 ∷ []) ≡ false
is_listed_not = refl
