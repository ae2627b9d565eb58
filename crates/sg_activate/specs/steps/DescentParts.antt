-- What a start has to be beside what the race asks: its parts cover the words, links and numbers are small, and something stands above.
use Rattle.std.specs.Prelude.{◌≡◌, ℕ, ◌^◌, ◌<◌, ◌≤◌, [], ◌∷◌, length, slice_index}
use Rattle.sg_hash.specs.Tables.{IsTable, AreBeside}
use Rattle.sg_activate.specs.declared.descent.rule.Start.{Start}
use Rattle.sg_activate.specs.TableParts.{places_in, first_of, part_of}
use Rattle.sg_activate.specs.DescentRace.{slots_each, places_each, limits_of, words_each, slot_part, stock_at}

-- parts cover the words, node after node, and each link and each number of a stock is one of its node's places
pub record IsLaidOut (start : Start) : Type 0 where
  pub slots : length start.links ≡ places_in (slots_each start)
  pub masks : length start.masks ≡ places_in (words_each start)
  pub stocks : length start.stock ≡ places_in (limits_of start)
  pub links : (i : ℕ) → slice_index start.links i ≤ slice_index (places_each start) (part_of (slots_each start) i)
  pub numbers : (l t : ℕ) → t < length (stock_at start l) → slice_index (stock_at start l) t < slice_index (places_each start) l
  pub places : (l : ℕ) → slice_index (places_each start) l ≤ 2 ^ 32
  pub from : (l : ℕ) → l < length start.slot_parts → (slot_part start l).stock ≡ first_of (limits_of start) l
  pub room : length start.stock < 2 ^ 63

-- above the fused nodes stands the root, or the hash node with its keys and links
pub record AreHeads (start : Start) (base : ℕ) : Type 0 where
  pub root : base ≡ 0 → (start.heads ≡ 1 ∷ []) × (start.head_places ≡ 1)
  pub some : base ≡ 1 → 0 < length start.keys
  pub table : base ≡ 1 → IsTable start.keys
  pub links : base ≡ 1 → AreBeside start.keys start.heads
  pub small : (i : ℕ) → slice_index start.heads i ≤ start.head_places
