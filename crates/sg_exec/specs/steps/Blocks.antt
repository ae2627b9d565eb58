-- Rows of a run that stand side by side below one place, and rows that have landed in a store.
use Rattle.std.specs.Prelude.{◌≡◌, ℕ, suc, ◌+◌, ◌%◌, ◌^◌, ◌<◌, ◌≤◌, Bool, nat_le, if◌then◌else◌, ℤ, pos, ◌≤ℤ◌, List, [], ◌∷◌, ◌++◌, length, Contains}
use Rattle.sg_coord.specs.Coord.{count_of, point_at}
use Rattle.sg_layout.specs.declared.shape.NodeShape.{NodeShape}
use Rattle.sg_layout.specs.Slots.{node_bounds, coordinate_of}
use Rattle.sg_flat.specs.declared.effects.Write.{Write}
use Rattle.sg_flat.specs.declared.state.FlatLayout.{FlatLayout}
use Rattle.sg_store.specs.StoreWords.{StoreWords}
use Rattle.sg_store.specs.StandsFor.{StandsFor}
use Rattle.sg_store.specs.Spots.{LeadsAlong}
use Rattle.sg_exec.specs.declared.loads.row_run.RowRun.{RowRun}
use Rattle.sg_exec.specs.declared.loads.blocks.Block.{Block}
use Rattle.sg_exec.specs.Runs.{along}
use Rattle.sg_exec.specs.steps.Landing.{landed_layout, HasTree}

-- a part of a point of some extents
abbrev pub IsPart : ℤ → Type 0
IsPart part = (pos 0 ≤ℤ part) × (count_of part < 2 ^ 15)

-- how much greater the parts are so far along the last axis, of 3 axes, else of 2, else of 1
abbrev pub more_a : Bool → Bool → ℕ → ℕ
more_a three two k = if three then 0 else (if two then 0 else k)

abbrev pub more_b : Bool → Bool → ℕ → ℕ
more_b three two k = if three then 0 else (if two then k else 0)

abbrev pub more_c : Bool → Bool → ℕ → ℕ
more_c three two k = if three then k else 0

-- Offsets at a node stand side by side along the last axis: up to the next multiple of the span an offset so much greater is so far along it.
pub record SpansAlong (node : NodeShape) (three two : Bool) (span : ℕ) : Type 0 where
  pub a : (offset k : ℕ) → offset % span + k < span →
      count_of (point_at (node_bounds node) (offset + k)).a ≡ count_of (point_at (node_bounds node) offset).a + more_a three two k
  pub b : (offset k : ℕ) → offset % span + k < span →
      count_of (point_at (node_bounds node) (offset + k)).b ≡ count_of (point_at (node_bounds node) offset).b + more_b three two k
  pub c : (offset k : ℕ) → offset % span + k < span →
      count_of (point_at (node_bounds node) (offset + k)).c ≡ count_of (point_at (node_bounds node) offset).c + more_c three two k

-- the same of so many axes
abbrev pub IsSpan : NodeShape → ℕ → ℕ → Type 0
IsSpan node axes span = SpansAlong node (nat_le 3 axes) (nat_le 2 axes) span

-- the rows of a block are those of a run: the offsets below its place lead to their coordinates
pub record IsBlock (store : StoreWords) (run : RowRun) (block : Block) : Type 0 where
  pub path : List ℕ
  pub leads : LeadsAlong store block.front path
  pub last : length store.shape.nodes ≡ suc (length path)
  pub few : block.offset + block.room ≤ 2 ^ 31
  pub rows : (k : ℕ) → k < block.room →
      coordinate_of store.shape (path ++ (block.offset + k) ∷ []) ≡ along (block.from + k) run.at

-- a block, or none, which has no rows
abbrev pub MayBeBlock : StoreWords → RowRun → Block → Type 0
MayBeBlock store run block = 0 < block.room → IsBlock store run block

-- a block that has the row with a number
pub record HasRow (store : StoreWords) (run : RowRun) (k : ℕ) (block : Block) : Type 0 where
  pub is : IsBlock store run block
  pub from : block.from ≤ k
  pub to : k < block.from + block.room

-- Writes into a layout have landed in its store: each was at an active coordinate, and nothing but fields has changed.
pub record RowsLanded (old now : StoreWords) (layout : ℕ) (writes : List Write) : Type 0 where
  pub tree : HasTree old now
  pub active : (flat : FlatLayout) → StandsFor old flat → (write : Write) → Contains writes write → Contains flat.active write.at
  pub stand : (flat : FlatLayout) → StandsFor old flat → StandsFor now (landed_layout layout old.shape flat writes)
