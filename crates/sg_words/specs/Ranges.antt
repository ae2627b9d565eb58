-- Races whose words are ranges of the words of a larger table.
use Rattle.std.specs.Prelude.{◌≡◌, refl, ℕ, ◌<◌, List, [], ◌∷◌, take, drop}
use mathlib.Core.Option.{some}
use lib.ListN.{get_elem?}
use Rattle.sg_words.specs.declared.race.Worker.{Worker}
use Rattle.sg_words.specs.RaceMachine.{Setting, Race}
use Rattle.sg_words.specs.RaceInvariant.{MeetsRaceInvariant}

-- so many words of a table from one place on
abbrev pub range_at : ℕ → ℕ → List ℕ → List ℕ
range_at from many words = take many (drop from words)

-- worker `id` of a race that meets the invariant has a share
pub record IsAtWork (g : Setting) (s : Race) (id : ℕ) (v : Worker) : Type 0 where
  pub kept : MeetsRaceInvariant g s
  pub stands : get_elem? s.workers id ≡ some v
  pub share : 0 < v.share

-- worked
two_from_one : range_at 1 2 (4 ∷ 5 ∷ 6 ∷ 7 ∷ []) ≡ 5 ∷ 6 ∷ []
two_from_one = refl

past_the_end : range_at 3 2 (4 ∷ 5 ∷ 6 ∷ 7 ∷ []) ≡ 7 ∷ []
past_the_end = refl
