-- A pass over mask words as a race: the words are the masks. Every container counts as live.
use Rattle.std.specs.Prelude.{◌≡◌, ℕ, ◌/◌, ◌%◌, ◌^◌, true, List, []}
use Rattle.atomic_table.specs.Table.{Step, Me}
use Rattle.sg_words.specs.declared.race.Worker.{Worker}
use Rattle.sg_words.specs.RaceMachine.{Setting, Race, newcomer, after_mark}
use Rattle.sg_words.specs.RaceInvariant.{MeetsRaceInvariant}

-- the setting of a race for bits alone: the masks at the start, no stock of numbers, and nothing that workers are told
abbrev pub setting_of : List ℕ → Setting
setting_of start = record {
  slots = [];
  keys = [];
  masks = start;
  lengths = [];
  cells = [];
  nodes = 0;
  stock = λ _. [];
  node = λ _. 0;
  over_slot = λ _. (0, 0);
  over_bit = λ _. (0, 0);
  over_length = λ _. (0, 0);
  live = λ _. true;
  into = λ a x. a;
  told = [];
}

-- the state of the race in which these are the mask words and the workers, and there is nothing else
abbrev pub race_of : List ℕ → List Worker → Race
race_of words views = record { slots = []; keys = []; masks = words; lengths = []; cells = []; counts = []; workers = views }

-- between any two atomic steps the words and the views are a state of the race machine that meets its invariant
pub record Racing (start words : List ℕ) (views : List Worker) : Type 0 where
  pub kept : MeetsRaceInvariant (setting_of start) (race_of words views)

-- the first seat is the first worker
abbrev pub first_worker : Worker
first_worker = newcomer [] 16

-- an or of the bit b, as a power of two, into its word: the bit was marked
abbrev pub marks : Step (Unit {0}) → Me (Unit {0}) Worker → ℕ → Me (Unit {0}) Worker → Type 0
marks st m word n = (b : ℕ) → st.word ≡ b / 64 → st.first ≡ 2 ^ (b % 64) → n ≡ (after_mark b m.0, m.1)
