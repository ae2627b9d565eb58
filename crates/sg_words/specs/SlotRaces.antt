-- Races for the slots of one node, with keys beside them or none. Every container counts as live.
use Rattle.std.specs.Prelude.{ℕ, true, List, []}
use Rattle.sg_words.specs.declared.race.Worker.{Worker}
use Rattle.sg_words.specs.RaceMachine.{Setting, Race}

-- the setting with these slots and keys, a stock, and what each worker is told
abbrev pub slot_setting : List ℕ → List ℕ → List ℕ → List ℕ → Setting
slot_setting slots keys stock told = record {
  slots = slots;
  keys = keys;
  masks = [];
  lengths = [];
  cells = [];
  nodes = 1;
  stock = λ _. stock;
  node = λ _. 0;
  over_slot = λ _. (0, 0);
  over_bit = λ _. (0, 0);
  over_length = λ _. (0, 0);
  live = λ _. true;
  into = λ a x. a;
  told = told;
}

-- the state with these slots, keys, counts and workers
abbrev pub slot_race : List ℕ → List ℕ → List ℕ → List Worker → Race
slot_race slots keys counts workers = record { slots = slots; keys = keys; masks = []; lengths = []; cells = []; counts = counts; workers = workers }
