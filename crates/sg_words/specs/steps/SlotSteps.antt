-- What a seat does between finding a slot empty and trying it, and what a table gives that was taken apart.
use Rattle.std.specs.Prelude.{◌≡◌, ℕ, ◌⊎◌, List, [], ◌∷◌, slice_index}
use mathlib.Core.Option.{some}
use lib.ListN.{get_elem?}
use Rattle.sg_words.specs.declared.race.Worker.{Worker}
use Rattle.sg_words.specs.RaceMachine.{Setting, after_draw}
use Rattle.sg_words.specs.RaceInvariant.{MeetsRaceInvariant}
use Rattle.sg_words.specs.SlotRaces.{slot_race}

-- it did nothing, or drew one ticket
abbrev pub Provided : Worker → Worker → Type 0
Provided v w = (w ≡ v) ⊎ ((n : ℕ) × (w ≡ after_draw 0 (slice_index v.told 0) n v))

-- the slots, the keys and the count are a state of the machine that meets the invariant, in which the worker stands
abbrev pub Ended : Setting → Worker → List ℕ → List ℕ → ℕ → Type 0
Ended g v slots keys count = (views : List Worker) × (id : ℕ) × MeetsRaceInvariant g (slot_race slots keys (count ∷ []) views) × (get_elem? views id ≡ some v)
