-- Laws of a part of a pass: each atomic step of a seat in the table of the part is one event of the race machine over the cells of that
-- part, whose needs are met.
use Rattle.std.specs.Prelude.{◌≡◌, ◌≢◌, ℕ, ◌+◌, ◌%◌, ◌^◌, ◌<◌, ◌≤◌, min, max, bit_and, bit_or, bit_xor, List, [], ◌∷◌, ◌++◌, map, length, slice_index, slice_set}
use Rattle.sg_words.specs.declared.operators.AccOp.TheVariants as acc
use Rattle.sg_words.specs.declared.race.Worker.{Worker}
use Rattle.sg_words.specs.Words.{rank_of}
use Rattle.sg_words.specs.RaceMachine.{Event, first, enrol, add, join, Needs, state_after, opening_race, worker, nobody, after_split, other_half, after_join, after_add}
use Rattle.sg_accum.specs.declared.begin.Start.{Start}
use Rattle.sg_accum.specs.AccRace.{cell_of, AreEntries, setting_of, race_of, first_worker}

-- what an event needs is met by words and views, and it leads to these others
abbrev pub IsEvent : Start → List ℕ → List Worker → Event → List ℕ → List Worker → Type 0
IsEvent start words views e words' views' = Needs (setting_of start) (race_of start words views) e × (state_after (setting_of start) e (race_of start words views) ≡ race_of start words' views')

-- the view of the worker with this number, or of nobody, whose share is 0, if there is none
abbrev pub at : Start → List Worker → ℕ → Worker
at start views id = worker (race_of start [] views) id

-- a table of words for the cells at the start, made with its first seat, is the opening of the race, in which the first worker comes
abbrev pub StartIsEvent : Start → List ℕ → Type 0
StartIsEvent start words = map (cell_of start.op start.ty) words ≡ start.values
    → (race_of start words [] ≡ opening_race (setting_of start)) × IsEvent start words [] first words (first_worker ∷ [])

-- a contribution x to cell c, where its word becomes n
abbrev pub GivesWord : Start → List ℕ → List Worker → (id c x n : ℕ) → Type 0
GivesWord start words views id c x n = 0 < (at start views id).share → c < length words → AreEntries start.op words
    → IsEvent start words views (add id c x) (slice_set words c n) (slice_set views id (after_add c x (at start views id)))

-- if the part adds, a contribution is an event that adds to the word
abbrev pub AddIsEvent : Start → List ℕ → List Worker → (id c x : ℕ) → Type 0
AddIsEvent start words views id c x = start.op ≡ acc.Add → GivesWord start words views id c x ((slice_index words c + x) % 2 ^ 64)

-- if the part keeps the least, a contribution of 32 bits is an event that leaves the lesser of the word and the contribution's rank
abbrev pub LeastIsEvent : Start → List ℕ → List Worker → (id c x : ℕ) → Type 0
LeastIsEvent start words views id c x = start.op ≡ acc.Min → x < 2 ^ 32 → GivesWord start words views id c x (min (slice_index words c) (rank_of start.ty x))

-- if the part keeps the greatest, a contribution of 32 bits is an event that leaves the greater of the word and the contribution's rank
abbrev pub MostIsEvent : Start → List ℕ → List Worker → (id c x : ℕ) → Type 0
MostIsEvent start words views id c x = start.op ≡ acc.Max → x < 2 ^ 32 → GivesWord start words views id c x (max (slice_index words c) (rank_of start.ty x))

-- if the part sets bits, a contribution of 32 bits is an event that leaves the bits that are set in the word or the contribution
abbrev pub SetBitsIsEvent : Start → List ℕ → List Worker → (id c x : ℕ) → Type 0
SetBitsIsEvent start words views id c x = start.op ≡ acc.Or → x < 2 ^ 32 → GivesWord start words views id c x (bit_or (slice_index words c) x)

-- if the part keeps bits, a contribution of 32 bits is an event that leaves the bits that are set in both the word and the contribution
abbrev pub KeepBitsIsEvent : Start → List ℕ → List Worker → (id c x : ℕ) → Type 0
KeepBitsIsEvent start words views id c x = start.op ≡ acc.And → x < 2 ^ 32 → GivesWord start words views id c x (bit_and (slice_index words c) x)

-- if the part flips bits, a contribution of 32 bits is an event that leaves the bits that are set in one of the word and the contribution
abbrev pub FlipBitsIsEvent : Start → List ℕ → List Worker → (id c x : ℕ) → Type 0
FlipBitsIsEvent start words views id c x = start.op ≡ acc.Xor → x < 2 ^ 32 → GivesWord start words views id c x (bit_xor (slice_index words c) x)

-- a split enrols a worker, and a join is a join
abbrev pub SplitIsEvent : Start → List ℕ → List Worker → ℕ → Type 0
SplitIsEvent start words views id = 2 ≤ (at start views id).share
    → IsEvent start words views (enrol id) words (slice_set views id (after_split (at start views id)) ++ other_half (at start views id) ∷ [])

-- if both have a share, a join of another worker into a worker is an event, and leaves nobody in the other's place
abbrev pub JoinIsEvent : Start → List ℕ → List Worker → ℕ → ℕ → Type 0
JoinIsEvent start words views id other = 0 < (at start views id).share → 0 < (at start views other).share → other ≢ id
    → IsEvent start words views (join id other) words (slice_set (slice_set views id (after_join (at start views id) (at start views other))) other nobody)
