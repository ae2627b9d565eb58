-- Laws of a pass over keys: each atomic step of a seat is one event of the race machine, whose needs are met. A load of an empty key place
-- leaves words and seat as they are.
use Rattle.std.specs.Prelude.{◌≡◌, ◌≢◌, ℕ, ◌+◌, ◌-◌, ◌<◌, ◌≤◌, ◌==◌, if◌then◌else◌, List, [], ◌∷◌, ◌++◌, length, slice_index, slice_set}
use Rattle.sg_words.specs.declared.race.Worker.{Worker}
use Rattle.sg_words.specs.Counts.{pairs, firsts}
use Rattle.sg_words.specs.RaceMachine.{Event, first, enrol, draw, key, join, Needs, MayPut, state_after, opening_race, worker, nobody, after_split, other_half, after_join, after_draw, after_key_word, key_word}
use Rattle.sg_words.specs.steps.RaceSteps.{after_look, after_try, look_event, try_event}
use Rattle.sg_hash.specs.declared.rule.Start.{Start}
use Rattle.sg_hash.specs.HashRace.{setting_of, race_of, first_worker}
use Rattle.sg_hash.specs.KeySteps.{after_look_key}

-- what an event needs is met by words and views, and it leads to these others
abbrev pub IsEvent : Start → List ℕ → List Worker → Event → List ℕ → List Worker → Type 0
IsEvent start words views e words' views' = Needs (setting_of start) (race_of start words views) e × (state_after (setting_of start) e (race_of start words views) ≡ race_of start words' views')

-- the view of the worker with this number, or of nobody, whose share is 0, if there is none
abbrev pub at : List Worker → ℕ → Worker
at views id = worker (record { slots = []; keys = []; masks = []; lengths = []; cells = []; counts = []; workers = views }) id

-- words for the slots, the keys and the count
abbrev pub IsWide : Start → List ℕ → Type 0
IsWide start words = length words ≡ length start.links + (length start.links + 1)

-- the table that is made with its first seat is the opening of the race, in which the first worker comes
abbrev pub StartIsEvent : Start → Type 0
StartIsEvent start = length start.keys ≡ length start.links → (race_of start (start.links ++ (start.keys ++ 0 ∷ [])) [] ≡ opening_race (setting_of start))
    × IsEvent start (start.links ++ (start.keys ++ 0 ∷ [])) [] first (start.links ++ (start.keys ++ 0 ∷ [])) (first_worker start ∷ [])

-- a load of slot i sees or misses it
abbrev pub LookIsEvent : Start → List ℕ → List Worker → ℕ → ℕ → Type 0
LookIsEvent start words views id i = IsWide start words → 0 < (at views id).share → i < length start.links
    → IsEvent start words views (look_event id i (slice_index words i)) words (slice_set views id (after_look i (slice_index words i) (at views id)))

-- an add of 1 to the count draws a ticket
abbrev pub DrawIsEvent : Start → List ℕ → List Worker → ℕ → Type 0
DrawIsEvent start words views id = IsWide start words → 0 < (at views id).share → firsts 0 (at views id).spare ≡ 0 → firsts 0 (at views id).past ≡ 0
    → IsEvent start words views (draw id 0) (slice_set words (length start.links + length start.links) (slice_index words (length start.links + length start.links) + 1))
    (slice_set views id (after_draw 0 (length start.stock) (slice_index words (length start.links + length start.links)) (at views id)))

-- an exchange of 0 for the link of ticket t links slot i, or sees it
abbrev pub TryIsEvent : Start → List ℕ → List Worker → ℕ → ℕ → ℕ → Type 0
TryIsEvent start words views id i t = IsWide start words → 0 < (at views id).share → i < length start.links → 0 < pairs 0 t (at views id).spare
    → IsEvent start words views (try_event id i t (slice_index words i)) (slice_set words i (if slice_index words i == 0 then slice_index start.stock t + 1 else slice_index words i))
    (slice_set views id (after_try 0 i t (slice_index start.stock t) (slice_index words i) (at views id)))

-- a load of the key word at place p finds the key that stands there
abbrev pub FindIsEvent : Start → List ℕ → List Worker → ℕ → ℕ → Type 0
FindIsEvent start words views id p = IsWide start words → 0 < (at views id).share → p < length start.links → slice_index words (length start.links + p) ≢ 0
    → IsEvent start words views (key id p (slice_index words (length start.links + p) - 1)) words (slice_set views id (after_look_key p (slice_index words (length start.links + p)) (at views id)))

-- an exchange of 0 for key k at a place of its order, after other keys, puts it, or finds the key that stands there
abbrev pub PutIsEvent : Start → List ℕ → List Worker → ℕ → ℕ → ℕ → Type 0
PutIsEvent start words views id p k = IsWide start words → 0 < (at views id).share → p < length start.links → MayPut (length start.links) p k (at views id)
    → IsEvent start words views (key id p k) (slice_set words (length start.links + p) (key_word k (slice_index words (length start.links + p))))
    (slice_set views id (after_key_word p k (slice_index words (length start.links + p)) (at views id)))

-- a split enrols a worker, and a join is a join
abbrev pub SplitIsEvent : Start → List ℕ → List Worker → ℕ → Type 0
SplitIsEvent start words views id = 2 ≤ (at views id).share → IsEvent start words views (enrol id) words (slice_set views id (after_split (at views id)) ++ other_half (at views id) ∷ [])

-- if both have a share, a join of another worker into a worker is an event, and leaves nobody in the other's place
abbrev pub JoinIsEvent : Start → List ℕ → List Worker → ℕ → ℕ → Type 0
JoinIsEvent start words views id other = 0 < (at views id).share → 0 < (at views other).share → other ≢ id
    → IsEvent start words views (join id other) words (slice_set (slice_set views id (after_join (at views id) (at views other))) other nobody)
