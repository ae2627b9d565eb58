-- Rows of items, each with an item in each of 32 columns, in one list.
use Rattle.std.specs.Prelude.{◌≡◌, ℕ, ◌+◌, ◌*◌, ◌<◌, ◌==◌, Bool, true, not, List, get_or, length}

-- the item of a row in a column, or none past the end
abbrev pub item_in : {A : Type 0} → List A → A → ℕ → ℕ → A
item_in items none k row = get_or items (row * 32 + k) none

-- a lane of a mask that isn't 0
abbrev pub is_on : List ℕ → ℕ → Bool
is_on lanes k = not (get_or lanes k 0 == 0)

-- a column is one of those whose lanes aren't 0
abbrev pub On : List ℕ → ℕ → Type 0
On lanes k = is_on lanes k ≡ true

-- a column is one of some, and before another
abbrev pub Before : (ℕ → Type 0) → ℕ → ℕ → Type 0
Before on end k = on k × (k < end)

-- In some columns the item of a row has become one of which something holds. All others are as they were.
pub record IsPut {A : Type 0} (Holds : ℕ → A → Type 0) (on : ℕ → Type 0) (to : ℕ) (none : A) (old new : List A) : Type 0 where
  pub long : length new ≡ length old
  pub there : (k : ℕ) → k < 32 → on k → Holds k (item_in new none k to)
  pub others : (k row : ℕ) → k < 32 → ((row ≡ to) × on k → ⊥) → item_in new none k row ≡ item_in old none k row
