-- Laws of a descent: each atomic step of a seat is one event of the race machine, whose needs are met.
use Rattle.std.specs.Prelude.{◌≡◌, ◌≢◌, ℕ, ◌+◌, ◌/◌, ◌%◌, ◌^◌, ◌<◌, ◌≤◌, ◌==◌, if◌then◌else◌, List, [], ◌∷◌, ◌++◌, length, replicate, slice_index, slice_set, bit_or}
use Rattle.sg_words.specs.declared.race.Worker.{Worker}
use Rattle.sg_words.specs.Counts.{pairs, firsts}
use Rattle.sg_words.specs.RaceMachine.{Event, first, enrol, draw, mark, join, Needs, KnowsContainer, state_after, opening_race, worker, nobody, after_split, other_half, after_join, after_draw, after_mark}
use Rattle.sg_words.specs.steps.RaceSteps.{after_look, after_try, look_event, try_event}
use Rattle.sg_activate.specs.declared.descent.rule.Start.{Start}
use Rattle.sg_activate.specs.TableParts.{part_of}
use Rattle.sg_activate.specs.DescentRace.{slots_each, stock_at, over_slot_at, over_bit_at, setting_of, race_of, first_worker}

-- what an event needs is met by words and views, and it leads to these others
abbrev pub IsEvent : Start → List ℕ → List Worker → Event → List ℕ → List Worker → Type 0
IsEvent start words views e words' views' = Needs (setting_of start) (race_of start words views) e × (state_after (setting_of start) e (race_of start words views) ≡ race_of start words' views')

-- the view of the worker with this number, or of nobody, whose share is 0, if there is none
abbrev pub at : List Worker → ℕ → Worker
at views id = worker (record { slots = []; keys = []; masks = []; lengths = []; cells = []; counts = []; workers = views }) id

-- the words are as many as those of the table
abbrev pub AreWords : Start → List ℕ → Type 0
AreWords start words = length words ≡ length start.links + length start.masks + length start.slot_parts

-- the words of a table that is made, and no ticket was drawn
abbrev pub first_words : Start → List ℕ
first_words start = start.links ++ (start.masks ++ replicate (length start.slot_parts) 0)

-- the table that is made with its first seat is the opening of the race, in which the first worker comes
abbrev pub StartIsEvent : Start → Type 0
StartIsEvent start = (race_of start (first_words start) [] ≡ opening_race (setting_of start))
    × IsEvent start (first_words start) [] first (first_words start) (first_worker start ∷ [])

-- a load of slot i sees or misses it
abbrev pub LookIsEvent : Start → List ℕ → List Worker → ℕ → ℕ → Type 0
LookIsEvent start words views id i = AreWords start words → 0 < (at views id).share → i < length start.links
    → IsEvent start words views (look_event id i (slice_index words i)) words (slice_set views id (after_look i (slice_index words i) (at views id)))

-- an add of 1 to the count of pointer node l draws a ticket of its stock
abbrev pub DrawIsEvent : Start → List ℕ → List Worker → ℕ → ℕ → Type 0
DrawIsEvent start words views id l = AreWords start words → 0 < (at views id).share → l < length start.slot_parts → firsts l (at views id).spare ≡ 0 → firsts l (at views id).past ≡ 0
    → IsEvent start words views (draw id l)
    (slice_set words (length start.links + length start.masks + l) (slice_index words (length start.links + length start.masks + l) + 1))
    (slice_set views id (after_draw l (length (stock_at start l)) (slice_index words (length start.links + length start.masks + l)) (at views id)))

-- an exchange of 0 for the link of ticket t of the slot's node, in a container that the worker knows, links slot i, or sees it
abbrev pub TryIsEvent : Start → List ℕ → List Worker → ℕ → ℕ → ℕ → Type 0
TryIsEvent start words views id i t = AreWords start words → 0 < (at views id).share → i < length start.links
    → 0 < pairs (part_of (slots_each start) i) t (at views id).spare → KnowsContainer (setting_of start) (at views id) (over_slot_at start i)
    → IsEvent start words views (try_event id i t (slice_index words i))
    (slice_set words i (if slice_index words i == 0 then slice_index (stock_at start (part_of (slots_each start) i)) t + 1 else slice_index words i))
    (slice_set views id (after_try (part_of (slots_each start) i) i t (slice_index (stock_at start (part_of (slots_each start) i)) t) (slice_index words i) (at views id)))

-- an or of bit b, as a power of two, into its word, in a container that the worker knows, marks it
abbrev pub MarkIsEvent : Start → List ℕ → List Worker → ℕ → ℕ → Type 0
MarkIsEvent start words views id b = AreWords start words → 0 < (at views id).share → b / 64 < length start.masks → KnowsContainer (setting_of start) (at views id) (over_bit_at start b)
    → IsEvent start words views (mark id b)
    (slice_set words (length start.links + b / 64) (bit_or (slice_index words (length start.links + b / 64)) (2 ^ (b % 64)))) (slice_set views id (after_mark b (at views id)))

-- a split enrols a worker, and a join is a join
abbrev pub SplitIsEvent : Start → List ℕ → List Worker → ℕ → Type 0
SplitIsEvent start words views id = 2 ≤ (at views id).share → IsEvent start words views (enrol id) words (slice_set views id (after_split (at views id)) ++ other_half (at views id) ∷ [])

-- if both have a share, a join of another worker into a worker is an event, and leaves nobody in the other's place
abbrev pub JoinIsEvent : Start → List ℕ → List Worker → ℕ → ℕ → Type 0
JoinIsEvent start words views id other = 0 < (at views id).share → 0 < (at views other).share → other ≢ id
    → IsEvent start words views (join id other) words (slice_set (slice_set views id (after_join (at views id) (at views other))) other nobody)
