-- What holds of every table.
use Rattle.std.specs.Prelude.{◌≡◌, ℕ, ◌+◌, ◌<◌, List, length, slice_index, replicate}
use Rattle.sg_hash.specs.Tables.{IsTable, AreBeside}

-- a key stands in one place alone
abbrev pub StandsOnce : List ℕ → Type 0
StandsOnce keys = IsTable keys → (key p q : ℕ) → p < length keys → q < length keys →
    slice_index keys p ≡ key + 1 → slice_index keys q ≡ key + 1 → p ≡ q

-- words that are all 0 are a table without keys
abbrev pub StartsEmpty : ℕ → Type 0
StartsEmpty places = IsTable (replicate places 0) × AreBeside (replicate places 0) (replicate places 0)
