-- Laws of a pass over masks: each atomic step of a seat is one event of the race machine, whose needs are met.
use Rattle.std.specs.Prelude.{◌≡◌, ◌≢◌, ℕ, ◌/◌, ◌%◌, ◌^◌, ◌<◌, ◌≤◌, List, [], ◌∷◌, ◌++◌, length, slice_index, slice_set, bit_or}
use Rattle.sg_words.specs.declared.race.Worker.{Worker}
use Rattle.sg_words.specs.RaceMachine.{Event, first, enrol, mark, join, Needs, state_after, opening_race, worker, nobody, after_split, other_half, after_join, after_mark}
use Rattle.sg_mask.specs.MaskRace.{setting_of, race_of, first_worker}

-- what an event needs is met by words and views, and it leads to these others
abbrev pub IsEvent : List ℕ → List ℕ → List Worker → Event → List ℕ → List Worker → Type 0
IsEvent start words views e words' views' = Needs (setting_of start) (race_of words views) e × (state_after (setting_of start) e (race_of words views) ≡ race_of words' views')

-- the view of the worker with this number, or of nobody, whose share is 0, if there is none
abbrev pub at : List Worker → ℕ → Worker
at views id = worker (race_of [] views) id

-- the table that is made with its first seat is the opening of the race, in which the first worker comes
abbrev pub StartIsEvent : List ℕ → Type 0
StartIsEvent start = (race_of start [] ≡ opening_race (setting_of start)) × IsEvent start start [] first start (first_worker ∷ [])

-- an or of the bit b, as a power of two, into its word marks it
abbrev pub MarkIsEvent : List ℕ → List ℕ → List Worker → ℕ → ℕ → Type 0
MarkIsEvent start words views id b = 0 < (at views id).share → b / 64 < length words
    → IsEvent start words views (mark id b) (slice_set words (b / 64) (bit_or (slice_index words (b / 64)) (2 ^ (b % 64)))) (slice_set views id (after_mark b (at views id)))

-- a split enrols a worker, and a join is a join
abbrev pub SplitIsEvent : List ℕ → List ℕ → List Worker → ℕ → Type 0
SplitIsEvent start words views id = 2 ≤ (at views id).share → IsEvent start words views (enrol id) words (slice_set views id (after_split (at views id)) ++ other_half (at views id) ∷ [])

-- if both have a share, a join of another worker into a worker is an event, and leaves nobody in the other's place
abbrev pub JoinIsEvent : List ℕ → List ℕ → List Worker → ℕ → ℕ → Type 0
JoinIsEvent start words views id other = 0 < (at views id).share → 0 < (at views other).share → other ≢ id
    → IsEvent start words views (join id other) words (slice_set (slice_set views id (after_join (at views id) (at views other))) other nobody)
