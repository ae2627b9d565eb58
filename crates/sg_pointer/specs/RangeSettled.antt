-- What a race leaves of the slots of one node, where those of several nodes may stand in one list: by what the last worker has done and seen.
use Rattle.std.specs.Prelude.{◌≡◌, ℕ, ◌+◌, ◌<◌, ◌≤◌, List, length, slice_index}
use mathlib.Core.Option.{some}
use lib.ListN.{get_elem?}
use Rattle.sg_words.specs.declared.race.Worker.{Worker}
use Rattle.sg_words.specs.Counts.{pairs, firsts}
use Rattle.sg_words.specs.RaceMachine.{Setting, Race}
use Rattle.sg_words.specs.RaceInvariant.{MeetsRaceInvariant, handed_share}
use Rattle.sg_words.specs.RaceLaws.{IsFreshSetting}
use Rattle.sg_words.specs.Stocks.{full_words}
use Rattle.sg_words.specs.Ranges.{range_at}

-- the slots of node l are so many from one on
pub record IsRangeOf (g : Setting) (l first many : ℕ) : Type 0 where
  pub inside : (i : ℕ) → i < many → g.node (first + i) ≡ l
  pub alone : (i : ℕ) → i < length g.slots → g.node i ≡ l → (first ≤ i) × (i < first + many)

-- one worker has all shares
pub record IsLast (g : Setting) (s : Race) (v : Worker) : Type 0 where
  pub kept : MeetsRaceInvariant g s
  pub id : ℕ
  pub stands : get_elem? s.workers id ≡ some v
  pub all : handed_share v ≡ 16

-- The node's slots at the end: old links stay; what was seen is there; the new links are those that were made, of the node's stock, each
-- number in one slot. Where the worker holds a ticket past the stock, and the stock had 17 more numbers than the free places of a pool of
-- c, more than c slots are linked
pub record IsSettledNode (old stock : List ℕ) (l first : ℕ) (v : Worker) (new : List ℕ) : Type 0 where
  pub long : length new ≡ length old
  pub stay : (i : ℕ) → i < length old → 0 < slice_index old i → slice_index new i ≡ slice_index old i
  pub seen : (i n : ℕ) → i < length old → 0 < pairs (first + i) n v.seen → slice_index new i ≡ n + 1
  pub made : (i t : ℕ) → i < length old → 0 < pairs (first + i) t v.made → (slice_index old i ≡ 0) × (t < length stock) × (slice_index new i ≡ slice_index stock t + 1)
  pub bare : (i : ℕ) → i < length old → slice_index old i ≡ 0 → firsts (first + i) v.made ≡ 0 → slice_index new i ≡ 0
  pub of_stock : (i : ℕ) → i < length old → slice_index old i ≡ 0 → 0 < slice_index new i → (t : ℕ) × (t < length stock) × (slice_index new i ≡ slice_index stock t + 1)
  pub once : (i j : ℕ) → i < length old → j < length old → slice_index old i ≡ 0 → 0 < slice_index new i → slice_index new i ≡ slice_index new j → i ≡ j
  pub filled : (c : ℕ) → length stock + full_words old ≡ c + 17 → 0 < firsts l v.past → c < full_words new

-- at the end of any race the range of a node whose stock is fresh is settled
abbrev pub EndsSettled : Setting → Race → Worker → ℕ → ℕ → ℕ → Type 0
EndsSettled g s v l first many = IsLast g s v → IsRangeOf g l first many → IsFreshSetting g l → first + many ≤ length g.slots
    → IsSettledNode (range_at first many g.slots) (g.stock l) l first v (range_at first many s.slots)
