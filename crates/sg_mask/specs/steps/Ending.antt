-- What the closed table gives.
use Rattle.std.specs.Prelude.{◌≡◌, ℕ, List}
use mathlib.Core.Option.{some}
use lib.ListN.{get_elem?}
use Rattle.sg_words.specs.declared.race.Worker.{Worker}
use Rattle.sg_words.specs.RaceInvariant.{MeetsRaceInvariant}
use Rattle.sg_mask.specs.MaskRace.{setting_of, race_of}

-- the words are a state of the machine that meets the invariant, in which the worker stands
abbrev pub Ended : List ℕ → Worker → List ℕ → Type 0
Ended start v words = (views : List Worker) × (id : ℕ) × MeetsRaceInvariant (setting_of start) (race_of words views) × (get_elem? views id ≡ some v)
