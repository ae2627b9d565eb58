-- The laws of needs, and what ties them to live slots.
use Rattle.std.specs.Prelude.{◌≡◌, ◌≢◌, ◌↔◌, ℕ, ◌+◌, ◌-◌, ◌*◌, ◌<◌, ◌≤◌, suc, List, [], ◌∷◌, ◌++◌, length, slice_get, Some, Contains, AllPairs, IsTrue}
use Rattle.sg_coord.specs.declared.coord.Coord.{Coord}
use Rattle.sg_coord.specs.Coord.{Inside}
use Rattle.sg_layout.specs.declared.shape.Kind.TheVariants.{Dynamic}
use Rattle.sg_layout.specs.declared.shape.NodeShape.{NodeShape}
use Rattle.sg_layout.specs.declared.shape.Shape.{Shape}
use Rattle.sg_layout.specs.Axes.{bounds_of_shape}
use Rattle.sg_layout.specs.Live.{kind_at, is_live}
use Rattle.sg_layout.specs.Closure.{closure}
use Rattle.sg_layout.specs.Need.{reached_slots, greatest_offset, under_slot, chunks_under, need_of, first_full}

-- the node with this number, counted from 1
pub record IsNumberedNode (shape : Shape) (number : ℕ) (node : NodeShape) : Type 0 where
  pub first : 1 ≤ number
  pub there : slice_get shape.nodes (number - 1) ≡ Some node

-- each coordinate of the list is inside
abbrev pub AllInside : Shape → List Coord → Type 0
AllInside shape written = (at : Coord) → Contains written at → Inside (bounds_of_shape shape) at

-- if one list has all that another has, each need is as great or greater
abbrev pub NeedGrows : Shape → Type 0
NeedGrows shape =
    (few more : List Coord) → ((at : Coord) → Contains few at → Contains more at) → (number : ℕ) (node : NodeShape) →
    need_of shape few number node ≤ need_of shape more number node

-- lists with the same members have the same needs
abbrev pub NeedIsOfMembers : Shape → Type 0
NeedIsOfMembers shape =
    (left right : List Coord) → ((at : Coord) → Contains left at ↔ Contains right at) →
    (number : ℕ) (node : NodeShape) → need_of shape left number node ≡ need_of shape right number node

-- lists with the same members fill the same node first
abbrev pub FullIsOfMembers : Shape → Type 0
FullIsOfMembers shape =
    (left right : List Coord) → ((at : Coord) → Contains left at ↔ Contains right at) →
    first_full shape left ≡ first_full shape right

-- closing a part of a list first changes no need; the part is inside, since a need counts every coordinate of a list
-- and a closure has those inside alone
abbrev pub NeedAbsorbs : Shape → Type 0
NeedAbsorbs shape =
    (written more : List Coord) → AllInside shape written → (number : ℕ) (node : NodeShape) → IsNumberedNode shape number node →
    need_of shape (closure shape written ++ more) number node ≡ need_of shape (written ++ more) number node

-- and so it changes nothing about which node is too full
abbrev pub FullAbsorbs : Shape → Type 0
FullAbsorbs shape =
    (written more : List Coord) → AllInside shape written →
    first_full shape (closure shape written ++ more) ≡ first_full shape (written ++ more)

-- at a node that isn't dynamic the reached slots are exactly the live ones
abbrev pub ReachedAreLive : Shape → Type 0
ReachedAreLive shape =
    (written : List Coord) (number : ℕ) → kind_at shape.nodes number ≢ Dynamic → (slot : List ℕ) →
    Contains (reached_slots shape written number) slot ↔ IsTrue (is_live shape written number slot)

-- no slot is reached twice, so that their number is that of the set
abbrev pub ReachedOnce : Shape → Type 0
ReachedOnce shape = (written : List Coord) (number : ℕ) → AllPairs (λ x y. x ≢ y) (reached_slots shape written number)

-- a dynamic node, by its number
pub record IsNumberedDynamicNode (shape : Shape) (number : ℕ) : Type 0 where
  pub first : 1 ≤ number
  pub within : number ≤ length shape.nodes
  pub dynamic : kind_at shape.nodes number ≡ Dynamic

-- the parents that a dynamic node's need goes over are those with a live index
abbrev pub ParentsHaveLive : Shape → Type 0
ParentsHaveLive shape =
    (written : List Coord) (number : ℕ) → IsNumberedDynamicNode shape number → (parent : List ℕ) →
    Contains (reached_slots shape written (number - 1)) parent
    ↔ ((index : ℕ) × IsTrue (is_live shape written number (parent ++ index ∷ [])))

-- the greatest offset at a node, of the coordinates under a parent
abbrev pub greatest_under : Shape → List Coord → ℕ → List ℕ → ℕ
greatest_under shape written number parent = greatest_offset shape number (under_slot shape written (number - 1) parent)

-- under such a parent the live indices are those up to the greatest
abbrev pub LiveUpToGreatest : Shape → Type 0
LiveUpToGreatest shape =
    (written : List Coord) (number : ℕ) → IsNumberedDynamicNode shape number → (parent : List ℕ) →
    Contains (reached_slots shape written (number - 1)) parent → (index : ℕ) →
    IsTrue (is_live shape written number (parent ++ index ∷ []))
    ↔ (index ≤ greatest_under shape written number parent)

-- and its chunks are as few as have room for one more than the greatest
abbrev pub ChunksHaveRoom : Shape → Type 0
ChunksHaveRoom shape =
    (written : List Coord) (number chunk : ℕ) (parent : List ℕ) → 1 ≤ chunk →
    (suc (greatest_under shape written number parent) ≤ chunks_under shape written number chunk parent * chunk)
    × (chunks_under shape written number chunk parent * chunk
    < suc (greatest_under shape written number parent) + chunk)
