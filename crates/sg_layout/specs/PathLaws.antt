-- The laws of paths and slots.
use Rattle.std.specs.Prelude.{◌≡◌, ◌↔◌, ℕ, ◌<◌, ◌≤◌, List, take, drop, length, Contains, AllPairs, IsTrue, false}
use Rattle.sg_coord.specs.declared.coord.Coord.{Coord}
use Rattle.sg_coord.specs.Bounds.{volume}
use Rattle.sg_coord.specs.Coord.{Inside}
use Rattle.sg_layout.specs.declared.shape.NodeShape.{NodeShape}
use Rattle.sg_layout.specs.declared.shape.Shape.{Shape}
use Rattle.sg_layout.specs.Axes.{slots_of, bounds_of_shape}
use Rattle.sg_layout.specs.Path.{offsets, path}
use Rattle.sg_layout.specs.Live.{kind_at}
use Rattle.sg_layout.specs.Closure.{is_dense, last_sparse, is_in_closure}
use Rattle.sg_layout.specs.Rules.{all_dense}
use Rattle.sg_layout.specs.Accepted.{IsAccepted}
use Rattle.sg_layout.specs.Slots.{IsSlot, slot_number, slot_at, slots, coordinate_of}

-- the whole path is the path through all nodes
abbrev pub WholePathIsOffsets : Shape → Type 0
WholePathIsOffsets shape = (at : Coord) → path shape at (length shape.nodes) ≡ offsets shape.nodes at

-- a coordinate inside is that of its whole path
abbrev pub CoordinateOfPath : Shape → Type 0
CoordinateOfPath shape =
    (at : Coord) → Inside (bounds_of_shape shape) at → coordinate_of shape (offsets shape.nodes at) ≡ at

-- coordinates inside have the same whole path exactly when they are equal
abbrev pub PathTellsCoordinate : Shape → Type 0
PathTellsCoordinate shape =
    (x y : Coord) → Inside (bounds_of_shape shape) x → Inside (bounds_of_shape shape) y →
    (offsets shape.nodes x ≡ offsets shape.nodes y) ↔ (x ≡ y)

-- a path through some nodes is a slot of the last of them; of shapes that keep the rules alone, since a node may else
-- have no slots, or more than its axes tell apart
abbrev pub PathIsSlot : Shape → Type 0
PathIsSlot shape =
    IsAccepted shape → (at : Coord) (through : ℕ) → IsSlot (take through shape.nodes) (path shape at through)

-- each slot of the last node is the whole path of its coordinate, which is inside, and by the law above of no other;
-- of shapes that keep the rules, since a node's size else need not be what its axes tell apart
abbrev pub SlotIsPath : Shape → Type 0
SlotIsPath shape =
    IsAccepted shape → (slot : List ℕ) → IsSlot shape.nodes slot →
    Inside (bounds_of_shape shape) (coordinate_of shape slot)
    × (offsets shape.nodes (coordinate_of shape slot) ≡ slot)

-- each slot of a node before it is the path of a coordinate inside, through that node
abbrev pub SlotIsReached : Shape → Type 0
SlotIsReached shape =
    IsAccepted shape → (through : ℕ) (slot : List ℕ) → IsSlot (take through shape.nodes) slot →
    (at : Coord) × Inside (bounds_of_shape shape) at × (path shape at through ≡ slot)

-- there are as many slots of the last node as coordinates inside, of shapes that keep the rules, as above
abbrev pub SlotsFillVolume : Shape → Type 0
SlotsFillVolume shape = IsAccepted shape → slots_of shape.nodes ≡ volume (bounds_of_shape shape)

-- a slot has a number below the product of the sizes, and the slot with that number is this slot
abbrev pub SlotHasNumber : List NodeShape → Type 0
SlotHasNumber nodes =
    (slot : List ℕ) → IsSlot nodes slot →
    (slot_number nodes slot < slots_of nodes) × (slot_at nodes (slot_number nodes slot) ≡ slot)

-- each number below the product of the sizes has a slot, and this slot has that number
abbrev pub NumberHasSlot : List NodeShape → Type 0
NumberHasSlot nodes =
    (number : ℕ) → number < slots_of nodes →
    IsSlot nodes (slot_at nodes number) × (slot_number nodes (slot_at nodes number) ≡ number)

-- the list of slots has each slot of the last node, and nothing else
abbrev pub SlotsAreListed : List NodeShape → Type 0
SlotsAreListed nodes = (slot : List ℕ) → Contains (slots nodes) slot ↔ IsSlot nodes slot

-- the list of slots is as long as the product of the sizes; with no nodes it has one slot, the empty path
abbrev pub SlotsAreCounted : List NodeShape → Type 0
SlotsAreCounted nodes = length (slots nodes) ≡ slots_of nodes

-- a slot in the list has a smaller number than each slot after it, so none stands there twice
abbrev pub SlotsAreInOrder : List NodeShape → Type 0
SlotsAreInOrder nodes = AllPairs (λ x y. slot_number nodes x < slot_number nodes y) (slots nodes)

-- no node decides what is active exactly when all are dense
abbrev pub NoneDecides : Shape → Type 0
NoneDecides shape = (last_sparse shape.nodes ≡ 0) ↔ IsTrue (all_dense shape.nodes)

-- else the node that decides is there, isn't dense, and all after it are
abbrev pub LastDecides : Shape → Type 0
LastDecides shape =
    0 < last_sparse shape.nodes →
    (last_sparse shape.nodes ≤ length shape.nodes)
    × (is_dense (kind_at shape.nodes (last_sparse shape.nodes)) ≡ false)
    × IsTrue (all_dense (drop (last_sparse shape.nodes) shape.nodes))

-- coordinates inside in the same slot of that node are active together
abbrev pub SlotDecides : Shape → Type 0
SlotDecides shape =
    (written : List Coord) (x y : Coord) → Inside (bounds_of_shape shape) x → Inside (bounds_of_shape shape) y →
    path shape x (last_sparse shape.nodes) ≡ path shape y (last_sparse shape.nodes) →
    is_in_closure shape written x ≡ is_in_closure shape written y
