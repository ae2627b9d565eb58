-- The law of a step on masks that are a range of the words of a larger table: it keeps the race invariant, in a race of any setting, with
-- any words beside the range.
use Rattle.std.specs.Prelude.{◌≡◌, ℕ, ◌+◌, ◌/◌, ◌%◌, ◌^◌, ◌<◌, List, length, slice_index, slice_set, bit_or}
use Rattle.sg_words.specs.declared.race.Worker.{Worker}
use Rattle.sg_words.specs.RaceMachine.{Setting, Race, KnowsContainer, after_mark}
use Rattle.sg_words.specs.RaceInvariant.{MeetsRaceInvariant}
use Rattle.sg_words.specs.Ranges.{range_at, IsAtWork}

-- the race with other masks and another worker in the place of worker `id`
abbrev pub with_masks : Race → List ℕ → ℕ → Worker → Race
with_masks s masks id w = record s { masks = masks; workers = slice_set s.workers id w }

-- the masks are so many words from one place on: an or of bit b, as a power of two, into its word, in a container that the worker knows
abbrev pub MarkKeeps : Setting → Race → ℕ → Worker → List ℕ → ℕ → ℕ → Type 0
MarkKeeps g s id v words from b = IsAtWork g s id v → s.masks ≡ range_at from (length s.masks) words → b / 64 < length s.masks
    → KnowsContainer g v (g.over_bit b)
    → MeetsRaceInvariant g (with_masks s (range_at from (length s.masks) (slice_set words (from + b / 64) (bit_or (slice_index words (from + b / 64)) (2 ^ (b % 64))))) id (after_mark b v))
