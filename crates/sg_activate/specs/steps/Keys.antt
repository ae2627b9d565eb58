-- What a seat of a race for keys has found, put and linked.
use Rattle.std.specs.Prelude.{◌≡◌, ℕ, ◌<◌, ◌⊎◌, Bool, true, List, Some}
use Rattle.sg_words.specs.declared.race.Worker.{Worker}
use Rattle.sg_words.specs.Counts.{pairs, times_in}
use Rattle.sg_coord.specs.declared.coord.Coord.{Coord}
use Rattle.sg_words.specs.Stocks.{is_dry}
use Rattle.sg_store.specs.StoreWords.{StoreWords}
use Rattle.sg_store.specs.Walks.{place_in}
use Rattle.sg_store.specs.Opening.{IsPlaceOf, IsInLive}

-- the worker has found the key at a place and a number in the slot beside it
pub record IsLinkedKey (v : Worker) (key : ℕ) : Type 0 where
  pub place : ℕ
  pub number : ℕ
  pub found : 0 < pairs place key v.keys
  pub seen : 0 < pairs place number v.seen

-- so it is, or the worker holds a ticket past the stock, or some key found another in every place
abbrev pub IsKnown : Worker → Bool → ℕ → Type 0
IsKnown v full key = IsLinkedKey v key ⊎ ((is_dry v ≡ true) ⊎ (full ≡ true))

-- so it is for the key of a coordinate, if it has one
abbrev pub HasFound : StoreWords → Coord → Worker → Bool → Type 0
HasFound store at v full = (key : ℕ) → place_in store 1 at ≡ Some key → IsKnown v full key

-- each key that it put is that of one of these coordinates
abbrev pub HasPutFor : StoreWords → List Coord → Worker → Type 0
HasPutFor store wanted v = (key : ℕ) → 0 < times_in key v.put → IsPlaceOf store 1 wanted key

-- each key that it put stands in a live container and is known, and each link that it made stands beside a key
pub record AreKeyed (store : StoreWords) (v : Worker) (full : Bool) : Type 0 where
  pub in_live : (key : ℕ) → 0 < times_in key v.put → IsInLive store 1 key
  pub known : (key : ℕ) → 0 < times_in key v.put → IsKnown v full key
  pub beside : (place ticket : ℕ) → 0 < pairs place ticket v.made → (key : ℕ) × (0 < pairs place key v.keys)
