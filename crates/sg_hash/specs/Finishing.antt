-- What a pass leaves when its last seat ends it.
use Rattle.std.specs.Prelude.{◌≡◌, ℕ, ◌+◌, ◌<◌, Bool, true, List, length, slice_index}
use Rattle.sg_words.specs.declared.race.Worker.{Worker}
use Rattle.sg_words.specs.Counts.{times_in, pairs}
use Rattle.sg_words.specs.Stocks.{is_dry, full_words, Settled as SettledSlots}
use Rattle.sg_hash.specs.Tables.{IsTable}

-- The slot words at the end, where a seat that holds a ticket past the stock ran dry
abbrev pub Settled : List ℕ → List ℕ → Worker → List ℕ → Type 0
Settled old stock v new = SettledSlots old stock v new (is_dry v)

-- The key words at the end: old keys stay; what was found is there; a new key was put; each stands after other keys of its order. Where
-- the last seat is full, every place holds a key
pub record KeysSettled (old : List ℕ) (v : Worker) (new : List ℕ) (full : Bool) : Type 0 where
  pub long : length new ≡ length old
  pub stay : (p : ℕ) → 0 < slice_index old p → slice_index new p ≡ slice_index old p
  pub found : (p k : ℕ) → 0 < pairs p k v.keys → slice_index new p ≡ k + 1
  pub put : (p k : ℕ) → slice_index old p ≡ 0 → slice_index new p ≡ k + 1 → 0 < times_in k v.put
  pub table : IsTable new
  pub filled : full ≡ true → full_words new ≡ length new

-- a link stands wherever a key stands
abbrev pub KeysHaveLinks : List ℕ → List ℕ → Type 0
KeysHaveLinks keys links = (p : ℕ) → 0 < slice_index keys p → 0 < slice_index links p

-- a link stands only where a key stands
abbrev pub LinksHaveKeys : List ℕ → List ℕ → Type 0
LinksHaveKeys keys links = (p : ℕ) → 0 < slice_index links p → 0 < slice_index keys p
