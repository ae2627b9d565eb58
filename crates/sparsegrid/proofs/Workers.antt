-- How many workers the words ask for.
use Rattle.std.proofs.Common.{◌≡◌, ℕ, ◌≤◌, Bool, true, false, ◌&&◌, List, [], ◌∷◌, cond, Option, Some, None, sym, subst, arith}
use Rattle.std.specs.Prelude.{nat_le, bytes_eq, IfSome}
use Rattle.std.proofs.lemmas.Bool.{and_parts}
use Rattle.std.proofs.lemmas.Bool.Decides.{nat_tests}
use Rattle.std.proofs.lemmas.Option.{same_Some}
use Rattle.sparsegrid.specs.Words.{value_beside}

-- each number of a table is from 1 to 16
abbrev are_counts : List (List ℕ × ℕ) → Bool
are_counts [] = true
are_counts (row ∷ rows) = (nat_le 1 row.1 && nat_le row.1 16) && are_counts rows

from_test : (n : ℕ) → (nat_le 1 n && nat_le n 16) ≡ true → (1 ≤ n) × (n ≤ 16)
from_test n test =
    let both = and_parts (nat_le 1 n) (nat_le n 16) test in
    (grind (arith, nat_tests, both.0), grind (arith, nat_tests, both.1))

beside : (table : List (List ℕ × ℕ)) (text : List ℕ) (n : ℕ) → are_counts table ≡ true → value_beside table text ≡ Some n → (1 ≤ n) × (n ≤ 16)
beside [] text n counts is = absurd (cc)
beside (row ∷ rows) text n counts is =
    let both = and_parts (nat_le 1 row.1 && nat_le row.1 16) (are_counts rows) counts in
    by_test (bytes_eq text row.0) both.0 (beside rows text n both.1) is
  where
    by_test : (b : Bool) → (nat_le 1 row.1 && nat_le row.1 16) ≡ true → (value_beside rows text ≡ Some n → (1 ≤ n) × (n ≤ 16)) → cond b (Some row.1) (value_beside rows text) ≡ Some n → (1 ≤ n) × (n ≤ 16)
    by_test true test later is = subst (λ (m : ℕ). (1 ≤ m) × (m ≤ 16)) (same_Some _ _ is) (from_test row.1 test)
    by_test false test later is = later is

pub some_count : (table : List (List ℕ × ℕ)) (text : List ℕ) (o : Option ℕ) → are_counts table ≡ true → o ≡ value_beside table text → IfSome o (λ n. 1 ≤ n)
some_count table text None counts is = tt
some_count table text (Some n) counts is = (beside table text n counts (sym is)).0

pub few_count : (table : List (List ℕ × ℕ)) (text : List ℕ) (o : Option ℕ) → are_counts table ≡ true → o ≡ value_beside table text → IfSome o (λ n. n ≤ 16)
few_count table text None counts is = tt
few_count table text (Some n) counts is = (beside table text n counts (sym is)).1
