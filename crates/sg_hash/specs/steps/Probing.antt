-- What a probe finds.
use Rattle.std.specs.Prelude.{◌≡◌, ℕ, ◌+◌, ◌<◌, Option, Some, None, List, length, slice_index, ◌⊎◌}
use Rattle.sg_hash.specs.Tables.{place, Passes, IsFull}

-- a place in the key's order, after places with other keys, that is empty or holds the key; None if every place
-- holds another key
abbrev pub IsProbe : List ℕ → ℕ → Option ℕ → Type 0
IsProbe keys key None = IsFull keys key
IsProbe keys key (Some p) = (turn : ℕ) × (turn < length keys) × (p ≡ place (length keys) key turn) × Passes keys key turn ×
    ((slice_index keys p ≡ 0) ⊎ (slice_index keys p ≡ key + 1))
