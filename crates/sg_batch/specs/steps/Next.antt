-- The least number of a list from a number on.
use Rattle.std.specs.Prelude.{ℕ, ◌<◌, ◌≤◌, List, Option, Some, None, Contains}

-- the number is the least one in the list that isn't below another; or all are below it
abbrev pub IsNext : List ℕ → ℕ → Option ℕ → Type 0
IsNext list from None = (number : ℕ) → Contains list number → number < from
IsNext list from (Some next) = Contains list next × ((from ≤ next) × ((number : ℕ) → Contains list number → from ≤ number → next ≤ number))
