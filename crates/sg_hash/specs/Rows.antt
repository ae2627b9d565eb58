-- Rows of words, and which of their places are in use.
use Rattle.std.specs.Prelude.{◌≡◌, ◌≢◌, ℕ, ◌<◌, ◌≤◌, Option, Some, None, List, length, slice_index}

-- the first place from one on whose word isn't 0; None if there is none
abbrev pub IsNext : List ℕ → ℕ → Option ℕ → Type 0
IsNext words from None = (place : ℕ) → from ≤ place → slice_index words place ≡ 0
IsNext words from (Some place) = (from ≤ place) × (place < length words) × (slice_index words place ≢ 0)
    × ((other : ℕ) → from ≤ other → other < place → slice_index words other ≡ 0)
