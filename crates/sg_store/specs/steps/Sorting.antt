-- The keys of a table, and the same ones in order.
use Rattle.std.specs.Prelude.{ℕ, ◌-◌, not, ◌==◌, Bool, List, map}
use Rattle.std.specs.List.{filter}
use Rattle.std.specs.List.Sorted.{IsPermutation, IsSorted}
use Rattle.std.specs.Ordering.{nat_cmp}

-- a word of a table holds a key
abbrev pub holds_key : ℕ → Bool
holds_key word = not (word == 0)

-- the keys that words of a table hold, in the order of their places
abbrev pub keys_in : List ℕ → List ℕ
keys_in words = map (λ word. word - 1) (filter holds_key words)

-- the same keys in order
pub record AreSortedKeys (words keys : List ℕ) : Type 0 where
  pub same : IsPermutation (keys_in words) keys
  pub sorted : IsSorted nat_cmp keys
