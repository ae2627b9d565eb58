-- A table planned beside that of a hash node, with those keys alone whose numbers are kept.
use Rattle.std.specs.Prelude.{◌≡◌, ℕ, ◌+◌, ◌<◌, ◌≤◌, ◌^◌, Bool, cond, ◌==◌, List, length, take, Option, Some, None}
use Rattle.std.specs.List.{All, Contains, list_any}
use Rattle.sg_hash.specs.Tables.{IsTable, AreBeside, beside}
use Rattle.sg_store.specs.steps.KeptWords.{in_row}

-- a number if it is kept, and else none
abbrev pub keep_number : (ℕ → Bool) → Option ℕ → Option ℕ
keep_number keeps None = None
keep_number keeps (Some number) = cond (keeps number) (Some number) None

-- a key stands among these words
abbrev pub stands_among : List ℕ → ℕ → Bool
stands_among words key = list_any (λ word. word == key + 1) words

-- a table whose numbers are fewer than its places, no two keys with the same
pub record IsOldTable (keys links : List ℕ) : Type 0 where
  pub numbers : List ℕ
  pub table : IsTable keys
  pub links_beside : AreBeside keys links
  pub small : All (λ word. word ≤ 2 ^ 32) keys
  pub fewer : length numbers < length keys
  pub all : (key number : ℕ) → beside keys links key ≡ Some number → Contains numbers number
  pub apart : (x y number : ℕ) → beside keys links x ≡ Some number → beside keys links y ≡ Some number → x ≡ y

-- a table of as many places, with those of the first so many keys whose numbers are kept
pub record IsKeptSoFar (keys links : List ℕ) (row : List Bool) (new_keys new_links : List ℕ) (through : ℕ) : Type 0 where
  pub as_many : length new_keys ≡ length keys
  pub table : IsTable new_keys
  pub links_beside : AreBeside new_keys new_links
  pub each : (key : ℕ) → beside new_keys new_links key ≡ cond (stands_among (take through keys) key) (keep_number (in_row row) (beside keys links key)) None

-- with those of all keys
pub record IsKeptTable (keys links : List ℕ) (row : List Bool) (new_keys new_links : List ℕ) : Type 0 where
  pub as_many : length new_keys ≡ length keys
  pub table : IsTable new_keys
  pub links_beside : AreBeside new_keys new_links
  pub each : (key : ℕ) → beside new_keys new_links key ≡ keep_number (in_row row) (beside keys links key)
