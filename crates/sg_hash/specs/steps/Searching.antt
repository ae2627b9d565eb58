-- What a seat knows of keys.
use Rattle.std.specs.Prelude.{◌≢◌, Option, Some, None, ◌⊎◌, [], ◌∷◌, ◌++◌, ◌≡◌, ℕ, ◌+◌, ◌<◌}
use Rattle.sg_words.specs.declared.race.Worker.{Worker}
use Rattle.sg_words.specs.Counts.{pairs}
use Rattle.sg_words.specs.RaceMachine.{place_in_order, HasOthersBefore}

-- a step that leaves what a seat knows of keys
abbrev pub SameKeys : Worker → Worker → Type 0
SameKeys v w = (w.keys ≡ v.keys) × (w.put ≡ v.put)

-- a search finds keys, and maybe puts one; nothing else changes
pub record Searched (v w : Worker) : Type 0 where
  pub told : w.told ≡ v.told
  pub size : w.size ≡ v.size
  pub share : w.share ≡ v.share
  pub back : w.back ≡ v.back
  pub spare : w.spare ≡ v.spare
  pub left : w.left ≡ v.left
  pub past : w.past ≡ v.past
  pub seen : w.seen ≡ v.seen
  pub missed : w.missed ≡ v.missed
  pub made : w.made ≡ v.made
  pub grows : (p k : ℕ) → 0 < pairs p k v.keys → 0 < pairs p k w.keys

-- what a probe of a place leaves in the list of keys that were put, by the word that stands there then
abbrev pub PutAt : ℕ → ℕ → Worker → Worker → Type 0
PutAt key word v w = (w.put ≡ v.put) ⊎ ((word ≡ key + 1) × (w.put ≡ v.put ++ key ∷ []))

-- a search among n places: the place where the key stands, the one at which it was found before, if it was; or another key in every place, and then no key was put
abbrev pub SearchFound : ℕ → ℕ → Worker → Worker → Option ℕ → Type 0
SearchFound n key v w (Some p) = (p < n) × (0 < pairs p key w.keys) × ((q : ℕ) → 0 < pairs q key v.keys → q ≡ p)
SearchFound n key v w None = HasOthersBefore n key n w × ((q : ℕ) → 0 < pairs q key v.keys → ⊥) × (w.put ≡ v.put)

-- so many places of a key's order among n were looked at, and another key was found in each; the key itself was found in none of them before
pub record HasLookedPast (n key turn : ℕ) (v w : Worker) : Type 0 where
  pub searched : Searched v w
  pub put : w.put ≡ v.put
  pub others : HasOthersBefore n key turn w
  pub inside : 0 < turn → (q : ℕ) → 0 < pairs q key v.keys → q < n
  pub absent : (q : ℕ) → 0 < pairs q key v.keys → (j : ℕ) → j < turn → q ≢ place_in_order n key j
