-- A pass over keys and the slots beside them as a race: the words are the slots, the keys, and the count of drawn tickets. Every container counts
-- as live.
use Rattle.std.specs.Prelude.{◌≡◌, ℕ, ◌+◌, ◌-◌, ◌^◌, ◌<◌, ◌≤◌, List, [], ◌∷◌, length, take, drop, slice_index}
use Rattle.atomic_table.specs.Table.{Step, Me}
use Rattle.sg_words.specs.declared.race.Worker.{Worker}
use Rattle.sg_words.specs.Counts.{pairs}
use Rattle.sg_words.specs.RaceMachine.{Setting, Race, newcomer, after_draw, after_key_word, key_word}
use Rattle.sg_words.specs.RaceInvariant.{MeetsRaceInvariant}
use Rattle.sg_words.specs.SlotRaces.{slot_setting, slot_race}
use Rattle.sg_words.specs.steps.RaceSteps.{after_look, after_try}
use Rattle.sg_hash.specs.KeySteps.{after_look_key, TellKeys}
use Rattle.sg_hash.specs.declared.rule.Start.{Start}

-- the setting of a race for keys and the slots beside them, of one node; each worker is told how long the stock is, and how many places there are
abbrev pub setting_of : Start → Setting
setting_of start = slot_setting start.links start.keys start.stock (length start.stock ∷ length start.links ∷ [])

-- the state of the race for which words stand: as many slots as links at the start, as many keys, then the count, and the workers
abbrev pub race_of : Start → List ℕ → List Worker → Race
race_of start words views = slot_race (take (length start.links) words) (take (length start.links) (drop (length start.links) words)) (drop (length start.links) (drop (length start.links) words)) views

-- between any two atomic steps the words and the views are a state of the race machine that meets its invariant
pub record Racing (start : Start) (words : List ℕ) (views : List Worker) : Type 0 where
  pub wide : length words ≡ length start.links + (length start.links + 1)
  pub kept : MeetsRaceInvariant (setting_of start) (race_of start words views)

-- the first seat is the first worker
abbrev pub first_worker : Start → Worker
first_worker start = newcomer (length start.stock ∷ length start.links ∷ []) 16

-- a load of a slot: the seat saw the slot's number, or missed it; and what the seat saw there before is there
abbrev pub looks : Step (Unit {0}) → Me (Unit {0}) Worker → ℕ → Me (Unit {0}) Worker → Type 0
looks st m word n = (n ≡ (after_look st.word word m.0, m.1)) × (word ≤ 2 ^ 32) × ((c : ℕ) → 0 < pairs st.word c m.0.seen → word ≡ c + 1)

-- an add to the count: a ticket was drawn
abbrev pub draws : Step (Unit {0}) → Me (Unit {0}) Worker → ℕ → Me (Unit {0}) Worker → Type 0
draws st m count n = n ≡ (after_draw 0 (slice_index m.0.told 0) count m.0, m.1)

-- an exchange of 0 for a link: the seat linked its spare, or saw the number that stood there
abbrev pub tries : Step (Unit {0}) → Me (Unit {0}) Worker → ℕ → Me (Unit {0}) Worker → Type 0
tries st m word n = ((t : ℕ) → m.0.spare ≡ (0, t) ∷ [] → n ≡ (after_try 0 st.word t (st.second - 1) word m.0, m.1)) × (word ≤ 2 ^ 32)

-- a load of a key word, which a seat finds by the number of places that it was told: it found the key that stands there, if any
abbrev pub looks_key : Step (Unit {0}) → Me (Unit {0}) Worker → ℕ → Me (Unit {0}) Worker → Type 0
looks_key st m word n = (p : ℕ) → st.word ≡ slice_index m.0.told 1 + p → (n ≡ (after_look_key p word m.0, m.1)) × TellKeys (slice_index m.0.told 1) p word n.0

-- an exchange of 0 for a key: it was put, or the key that stood there was found
abbrev pub tries_key : Step (Unit {0}) → Me (Unit {0}) Worker → ℕ → Me (Unit {0}) Worker → Type 0
tries_key st m word n = (p key : ℕ) → st.word ≡ slice_index m.0.told 1 + p → st.second ≡ key + 1
    → (n ≡ (after_key_word p key word m.0, m.1)) × TellKeys (slice_index m.0.told 1) p (key_word key word) n.0
