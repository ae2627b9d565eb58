-- The walk down the tree of a store: the paths at each node over slots that are active, and what the code keeps of each.
use Rattle.std.specs.Prelude.{◌≡◌, ℕ, zero, suc, ◌^◌, ◌<◌, ◌≤◌, Bool, List, [], ◌∷◌, ◌++◌, length, map, filter, take, slice_index, get_or, None, is_some}
use Rattle.std.specs.List.{All, AllZip, Contains, flat_map, range_with_len}
use Rattle.std.specs.List.Sorted.{IsPermutation}
use Rattle.sg_coord.specs.Coord.{Inside, row_of}
use Rattle.sg_layout.specs.declared.shape.Shape.{Shape}
use Rattle.sg_layout.specs.Axes.{bounds_of_shape, sizes_of}
use Rattle.sg_layout.specs.declared.shape.Kind.TheVariants.{Dynamic}
use Rattle.sg_layout.specs.Live.{kind_at}
use Rattle.sg_layout.specs.Slots.{IsSlot, coordinate_of, share_at}
use Rattle.sg_store.specs.StoreWords.{StoreWords}
use Rattle.sg_store.specs.Walks.{cell_along}
use Rattle.sg_store.specs.Spots.{LeadsAlong}
use Rattle.sg_elements.specs.declared.branches.Branch.{Branch}
use Rattle.sg_elements.specs.declared.ways.Way.{Way}

-- links and bits lead along the path
abbrev pub is_led : StoreWords → List ℕ → Bool
is_led store path = is_some (cell_along store path)

-- those paths along which the store leads, of a path with each of these offsets after it
abbrev pub led_over : StoreWords → List ℕ → List ℕ → List (List ℕ)
led_over store path offsets = filter (is_led store) (map (λ offset. path ++ offset ∷ []) offsets)

-- those paths along which the store leads, of a path with each offset below a size after it
abbrev pub led_below : StoreWords → ℕ → List ℕ → List (List ℕ)
led_below store size path = led_over store path (range_with_len 0 size)

-- the size of the node with this index, from 0
abbrev pub node_size : StoreWords → ℕ → ℕ
node_size store node = slice_index (sizes_of store.shape.nodes) node

-- the paths through so many nodes along which the store leads, in the order of their offsets
abbrev pub level_at : StoreWords → ℕ → List (List ℕ)
level_at store zero = [] ∷ []
level_at store (suc node) = flat_map (led_below store (node_size store node)) (level_at store node)

-- the row number of the coordinate that has a path's offsets, and zeros after them
abbrev pub row_along : Shape → List ℕ → ℕ
row_along shape path = row_of (bounds_of_shape shape) (coordinate_of shape path)

-- the row numbers to which the walk leads, in the order of their paths
abbrev pub walk_rows : StoreWords → List ℕ
walk_rows store = map (row_along store.shape) (level_at store (length store.shape.nodes))

-- those of the paths below the first so many of a level
abbrev pub rows_upto : StoreWords → ℕ → ℕ → List ℕ
rows_upto store node count = map (row_along store.shape) (flat_map (led_below store (node_size store node)) (take count (level_at store node)))

-- however many paths of a level are taken, few row numbers are below them
abbrev pub FewBelow : StoreWords → ℕ → Type 0
FewBelow store node = (count : ℕ) → length (rows_upto store node count) < 2 ^ 32

-- these are those below the paths of a level from one number up to below another, in some order: after those before them they are all up to there
abbrev pub AreRowsBetween : StoreWords → ℕ → ℕ → ℕ → List ℕ → Type 0
AreRowsBetween store node from to rows = IsPermutation (rows_upto store node to) (rows_upto store node from ++ rows)

-- what an offset of a node adds to a row number
abbrev pub share_row : Shape → ℕ → ℕ → ℕ
share_row shape node offset = row_of (bounds_of_shape shape) (share_at shape.axes shape.nodes node offset)

-- what the offsets of a node add to a coordinate is inside
abbrev pub SharesInside : Shape → ℕ → Type 0
SharesInside shape node =
    (offset : ℕ) → offset < slice_index (sizes_of shape.nodes) node →
    Inside (bounds_of_shape shape) (share_at shape.axes shape.nodes node offset)

-- the way over an offset of a node
abbrev pub way_of : Shape → ℕ → ℕ → Way
way_of shape node offset = record { offset = offset; share = share_row shape node offset }

-- the offsets of some ways, in the order of the ways
abbrev pub offsets_of : List Way → List ℕ
offsets_of ways = map (λ (way : Way). way.offset) ways

-- after this path the store leads on over no offset of a node from this one on
abbrev pub EndsAt : StoreWords → ℕ → ℕ → List ℕ → Type 0
EndsAt store node end path = (offset : ℕ) → end ≤ offset → offset < node_size store node → cell_along store (path ++ offset ∷ []) ≡ None

-- after each path of a node's level
abbrev pub AreEnough : StoreWords → ℕ → ℕ → Type 0
AreEnough store node count = (path : List ℕ) → Contains (level_at store node) path → EndsAt store node count path

-- Ways of a node, over which the store leads on from each place of it as over all its offsets. At a dynamic node, whose places have lists,
-- they are those over its first offsets
pub record AreWays (store : StoreWords) (node : ℕ) (ways : List Way) : Type 0 where
  pub below : All (λ (way : Way). way.offset < node_size store node) ways
  pub shares : All (λ (way : Way). way.share ≡ share_row store.shape node way.offset) ways
  pub all : (path : List ℕ) → Contains (level_at store node) path →
      led_over store path (offsets_of ways) ≡ led_below store (node_size store node) path
  pub first : kind_at store.shape.nodes (suc node) ≡ Dynamic → (i : ℕ) (d : Way) → i < length ways → (get_or ways i d).offset ≡ i

-- a branch of the walk after so many nodes
pub record IsBranch (store : StoreWords) (node : ℕ) (branch : Branch) (path : List ℕ) : Type 0 where
  pub many : length path ≡ node
  pub leads : LeadsAlong store branch.spot path
  pub is_slot : IsSlot (take node store.shape.nodes) path
  pub row : branch.row ≡ row_along store.shape path

-- the branches of these paths
abbrev pub AreBranches : StoreWords → ℕ → List Branch → List (List ℕ) → Type 0
AreBranches store node branches paths = AllZip (IsBranch store node) branches paths

-- to some branches those have been added that a path has below it, over these offsets
pub record AddsBranches (store : StoreWords) (node : ℕ) (offsets path : List ℕ) (old new : List Branch) : Type 0 where
  pub more : List Branch
  pub added : new ≡ old ++ more
  pub are : AreBranches store (suc node) more (led_over store path offsets)

-- to some row numbers those of such branches
abbrev pub AddsRows : StoreWords → List ℕ → List ℕ → List ℕ → List ℕ → Type 0
AddsRows store offsets path old new = new ≡ old ++ map (row_along store.shape) (led_over store path offsets)
