-- What a seat of a descent has reached and made.
use Rattle.std.specs.Prelude.{ℕ, ◌<◌, List, Contains}
use Rattle.sg_words.specs.declared.race.Worker.{Worker}
use Rattle.sg_words.specs.Counts.{pairs, times_in}
use Rattle.sg_coord.specs.declared.coord.Coord.{Coord}
use Rattle.sg_activate.specs.declared.descent.rule.Start.{Start}
use Rattle.sg_activate.specs.declared.descent.walk.Reach.{Reach}
use Rattle.sg_activate.specs.Descending.{IsAnswered, IsSlotFor, IsBitFor, KnowsKey}

-- if the key of a coordinate has a link, it was answered
abbrev pub HasReached : Start → Coord → Worker → Type 0
HasReached start at v = KnowsKey start at → (answer : Reach) × IsAnswered start v at answer

-- what it made and marked is for one of these coordinates
pub record HasMadeFor (start : Start) (wanted : List Coord) (v : Worker) : Type 0 where
  pub made : (i t : ℕ) → 0 < pairs i t v.made → (at : Coord) × Contains wanted at × IsSlotFor start v at i
  pub marked : (b : ℕ) → 0 < times_in b v.marked → (at : Coord) × Contains wanted at × IsBitFor start v at b
