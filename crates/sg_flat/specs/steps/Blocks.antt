-- Blocks of points: the points that share a slot of a node differ only below it, so each axis is cut into runs of one length.
use Rattle.std.specs.Prelude.{◌≡◌, ◌<◌, ℕ, suc, max, ◌*◌, ◌/◌, ◌%◌, pos, Bool, true, false, ◌&&◌, List, map, filter, ◌==◌, nat_lt, nat_le, Option, Some, None, unwrap_or, Contains}
use Rattle.std.specs.List.{fold}
use Rattle.sg_coord.specs.declared.coord.Coord.{Coord}
use Rattle.sg_coord.specs.Bounds.{Bounds, bounds_of, volume}
use Rattle.sg_coord.specs.Coord.{count_of, row_of, point_at}
use Rattle.sg_layout.specs.declared.shape.Kind.{Kind}
use Rattle.sg_layout.specs.declared.shape.Kind.TheVariants.{Dense, Bitmasked, Pointer, Hash, Dynamic}
use Rattle.sg_layout.specs.declared.shape.NodeShape.{NodeShape}
use Rattle.sg_layout.specs.Axes.{extent_over}
use Rattle.sg_flat.specs.declared.blocks.Blocks.{Blocks}

-- the extents of the axes over a list of nodes; where these are the nodes below a slot, those of the block of its points
abbrev pub bounds_over : ℕ → List NodeShape → Bounds
bounds_over axes nodes = record { n = axes; a = extent_over nodes 1; b = extent_over nodes 2; c = extent_over nodes 3 }

-- how many nodes, from the root, stand above the blocks in which a node with this index (from 0) tells live points: a dynamic
-- node has a length for each block under its parent, the others have a mark for each block under a slot of their own
abbrev pub nodes_above : Kind → ℕ → ℕ
nodes_above Dynamic index = index
nodes_above Dense index = suc index
nodes_above Bitmasked index = suc index
nodes_above Pointer index = suc index
nodes_above Hash index = suc index

-- a block is live as a whole, or up to a length
abbrev pub is_whole : Kind → Bool
is_whole Dynamic = false
is_whole Dense = true
is_whole Bitmasked = true
is_whole Pointer = true
is_whole Hash = true

-- the first point of the block that a coordinate is in: each part is rounded down to a multiple of the block's extent
abbrev pub corner : Bounds → Coord → Coord
corner block at =
    record { n = at.n; a = pos (count_of at.a / block.a * block.a); b = pos (count_of at.b / block.b * block.b); c = pos (count_of at.c / block.c * block.c) }

-- the number of that block: the row of its first point
abbrev pub block_number : Bounds → Bounds → Coord → ℕ
block_number all block at = row_of all (corner block at)

-- where a coordinate stands in its block, as a coordinate counted from the block's first point
abbrev pub within : Bounds → Coord → Coord
within block at = record { n = at.n; a = pos (count_of at.a % block.a); b = pos (count_of at.b % block.b); c = pos (count_of at.c % block.c) }

-- the number of a point in its block, in row order
abbrev pub row_in_block : Bounds → Coord → ℕ
row_in_block block at = row_of block (within block at)

-- how many points of its block, in row order, a coordinate makes live: all of them, or those up to itself
abbrev pub live_points : Bool → Bounds → Coord → ℕ
live_points true block at = volume block
live_points false block at = suc (row_in_block block at)

-- the greater of a length that may be there and another
abbrev pub longer : Option ℕ → ℕ → Option ℕ
longer length reach = Some (max (unwrap_or length 0) reach)

-- how many points of the block with a number a list of coordinates makes live; none if no coordinate is in the block
abbrev pub length_at : Bounds → Bounds → Bool → List Coord → ℕ → Option ℕ
length_at all block whole coords number =
    fold longer None (map (live_points whole block) (filter (λ at. block_number all block at == number) coords))

-- the coordinate's place in its block is below the length that a list of coordinates gives the block
abbrev pub is_reached : Bounds → Bounds → Bool → List Coord → Coord → Bool
is_reached all block whole coords at = nat_lt (row_in_block block at) (unwrap_or (length_at all block whole coords (block_number all block at)) 0)

-- there is a coordinate with a row number, and its place in its block is below the length that a list of coordinates gives the block
abbrev pub is_row_reached : Bounds → Bounds → Bool → List Coord → ℕ → Bool
is_row_reached all block whole coords row = nat_lt row (volume all) && is_reached all block whole coords (point_at all row)

-- ---- blocks, the places in them and their lengths, of a layout cut into blocks as the code has them
-- the extents of the layout
abbrev pub all_of : Blocks → Bounds
all_of blocks = bounds_of blocks.extents

-- the extents of a block, the same for each block of the layout
abbrev pub each_of : Blocks → Bounds
each_of blocks = bounds_of blocks.block

-- the number of the block that a coordinate is in: the row in the layout of the block's first point
abbrev pub number_in : Blocks → Coord → ℕ
number_in blocks at = block_number (all_of blocks) (each_of blocks) at

-- the place of a coordinate in its block, from 0, in row order
abbrev pub row_in_blocks : Blocks → Coord → ℕ
row_in_blocks blocks at = row_in_block (each_of blocks) at

-- how many points of its block, in row order, a coordinate makes live: all of them, or those up to itself
abbrev pub reach_in : Blocks → Coord → ℕ
reach_in blocks at = live_points blocks.whole (each_of blocks) at

-- the coordinate with a row number
abbrev pub point_in : Blocks → ℕ → Coord
point_in blocks row = point_at (all_of blocks) row

-- the length that coordinates give the block with a number
abbrev pub length_in : Blocks → List Coord → ℕ → Option ℕ
length_in blocks coords number = length_at (all_of blocks) (each_of blocks) blocks.whole coords number

-- the row is one of a point that coordinates reach
abbrev pub reaches_row : Blocks → List Coord → ℕ → Bool
reaches_row blocks coords row = is_row_reached (all_of blocks) (each_of blocks) blocks.whole coords row

-- the row is one of a point of the block of a coordinate, from one place on and below another
abbrev pub is_between : Blocks → Coord → ℕ → ℕ → ℕ → Bool
is_between blocks at from to row =
    nat_lt row (volume (all_of blocks)) && ((number_in blocks at == number_in blocks (point_in blocks row))
    && (nat_le from (row_in_blocks blocks (point_in blocks row)) && nat_lt (row_in_blocks blocks (point_in blocks row)) to))

-- ---- rows of which each has its neighbours
-- the point at a place of the block of a coordinate has its row in a list
abbrev pub HasPlace : Blocks → List ℕ → Coord → ℕ → Type 0
HasPlace blocks rows at place =
    (row : ℕ) × Contains rows row × (number_in blocks (point_in blocks row) ≡ number_in blocks at) × (row_in_blocks blocks (point_in blocks row) ≡ place)

-- so has the point before a place, if there is one
abbrev pub HasBefore : Blocks → List ℕ → Coord → ℕ → Type 0
HasBefore blocks rows at place = (earlier : ℕ) → suc earlier ≡ place → HasPlace blocks rows at earlier

-- so has the point behind a place, if that is below a reach
abbrev pub HasBehind : Blocks → List ℕ → Coord → ℕ → ℕ → Type 0
HasBehind blocks rows at place reach = suc place < reach → HasPlace blocks rows at (suc place)

-- the points before and behind the point of a row in its block have their rows in the list, the later one where it is made live
pub record HasNeighbours (blocks : Blocks) (rows : List ℕ) (row : ℕ) : Type 0 where
  pub before : HasBefore blocks rows (point_in blocks row) (row_in_blocks blocks (point_in blocks row))
  pub behind : HasBehind blocks rows (point_in blocks row) (row_in_blocks blocks (point_in blocks row)) (reach_in blocks (point_in blocks row))
