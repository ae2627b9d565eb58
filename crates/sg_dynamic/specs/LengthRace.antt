-- A pass over lengths as a race: the words are the lengths. Every container counts as live.
use Rattle.std.specs.Prelude.{◌≡◌, ℕ, ◌+◌, true, List, []}
use Rattle.atomic_table.specs.Table.{Step, Me}
use Rattle.sg_words.specs.declared.race.Worker.{Worker}
use Rattle.sg_words.specs.RaceMachine.{Setting, Race, newcomer, after_raise}
use Rattle.sg_words.specs.RaceInvariant.{MeetsRaceInvariant}

-- the setting of a race for lengths alone: those at the start, no stock of numbers, and nothing that workers are told
abbrev pub setting_of : List ℕ → Setting
setting_of start = record {
  slots = [];
  keys = [];
  masks = [];
  lengths = start;
  cells = [];
  nodes = 0;
  stock = λ _. [];
  node = λ _. 0;
  over_slot = λ _. (0, 0);
  over_bit = λ _. (0, 0);
  over_length = λ _. (0, 0);
  live = λ _. true;
  into = λ a x. a;
  told = [];
}

-- the state of the race in which these are the lengths and the workers, and there is nothing else
abbrev pub race_of : List ℕ → List Worker → Race
race_of words views = record { slots = []; keys = []; masks = []; lengths = words; cells = []; counts = []; workers = views }

-- between any two atomic steps the words and the views are a state of the race machine that meets its invariant
pub record Racing (start words : List ℕ) (views : List Worker) : Type 0 where
  pub kept : MeetsRaceInvariant (setting_of start) (race_of words views)

-- the first seat is the first worker
abbrev pub first_worker : Worker
first_worker = newcomer [] 16

-- the greatest of a word and a length is put into the word: it was raised to the index below that length
abbrev pub raises : Step (Unit {0}) → Me (Unit {0}) Worker → ℕ → Me (Unit {0}) Worker → Type 0
raises st m word n = (i : ℕ) → st.first ≡ i + 1 → n ≡ (after_raise st.word i m.0, m.1)
