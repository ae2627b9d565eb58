-- Laws of steps on slots and counts that are a range of the words of a larger table: each kind of step keeps the race invariant, in a race
-- of any setting, with any words beside the range.
use Rattle.std.specs.Prelude.{◌≡◌, ℕ, ◌+◌, ◌<◌, ◌==◌, if◌then◌else◌, List, length, slice_index, slice_set}
use Rattle.sg_words.specs.declared.race.Worker.{Worker}
use Rattle.sg_words.specs.Counts.{pairs, firsts}
use Rattle.sg_words.specs.RaceMachine.{Setting, Race, KnowsContainer, ticket_number, after_draw}
use Rattle.sg_words.specs.RaceInvariant.{MeetsRaceInvariant}
use Rattle.sg_words.specs.steps.RaceSteps.{after_look, after_try}
use Rattle.sg_words.specs.Ranges.{range_at, IsAtWork}

-- the race with other slots and another worker in the place of worker `id`; with other counts
abbrev pub with_slots : Race → List ℕ → ℕ → Worker → Race
with_slots s slots id w = record s { slots = slots; workers = slice_set s.workers id w }

abbrev pub with_counts : Race → List ℕ → ℕ → Worker → Race
with_counts s counts id w = record s { counts = counts; workers = slice_set s.workers id w }

-- the slots are so many words of the table from one place on: a load of slot i
abbrev pub LookKeeps : Setting → Race → ℕ → Worker → List ℕ → ℕ → ℕ → Type 0
LookKeeps g s id v words from i = IsAtWork g s id v → s.slots ≡ range_at from (length s.slots) words → i < length s.slots
    → MeetsRaceInvariant g (with_slots s s.slots id (after_look i (slice_index words (from + i)) v))

-- an exchange of 0 for the link of a spare of the slot's node, in a container that the worker knows
abbrev pub TryKeeps : Setting → Race → ℕ → Worker → List ℕ → ℕ → ℕ → ℕ → Type 0
TryKeeps g s id v words from i t = IsAtWork g s id v → s.slots ≡ range_at from (length s.slots) words → i < length s.slots
    → 0 < pairs (g.node i) t v.spare → KnowsContainer g v (g.over_slot i)
    → MeetsRaceInvariant g (with_slots s
    (range_at from (length s.slots) (slice_set words (from + i) (if slice_index words (from + i) == 0 then ticket_number g (g.node i) t + 1 else slice_index words (from + i)))) id
    (after_try (g.node i) i t (ticket_number g (g.node i) t) (slice_index words (from + i)) v))

-- the counts are the words from one place on: an add of 1 to the count of node l
abbrev pub DrawKeeps : Setting → Race → ℕ → Worker → List ℕ → ℕ → ℕ → Type 0
DrawKeeps g s id v words from l = IsAtWork g s id v → s.counts ≡ range_at from (length s.counts) words → l < length s.counts
    → firsts l v.spare ≡ 0 → firsts l v.past ≡ 0
    → MeetsRaceInvariant g (with_counts s (range_at from (length s.counts) (slice_set words (from + l) (slice_index words (from + l) + 1))) id
    (after_draw l (length (g.stock l)) (slice_index words (from + l)) v))
