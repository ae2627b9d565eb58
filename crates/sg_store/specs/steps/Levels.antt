-- One level of reaching coordinates: what stays while a node is opened for them, and when it is too full.
use Rattle.std.specs.Prelude.{◌≡◌, ℕ, suc, ◌<◌, Bool, List, ◌++◌, length, Some, slice_get}
use Rattle.sg_words.specs.declared.memory.Stop.{Stop}
use Rattle.sg_words.specs.declared.memory.Stop.TheVariants as stop
use Rattle.sg_coord.specs.declared.coord.Coord.{Coord}
use Rattle.sg_layout.specs.declared.shape.Kind.{Kind}
use Rattle.sg_layout.specs.declared.shape.Kind.TheVariants.{Pointer, Hash}
use Rattle.sg_layout.specs.declared.shape.NodeShape.{NodeShape}
use Rattle.sg_layout.specs.Axes.{count_of}
use Rattle.sg_layout.specs.Need.{reached_slots, need_of}
use Rattle.sg_store.specs.declared.node.NodeWords.{NodeWords}
use Rattle.sg_store.specs.declared.reach.Full.{Full}
use Rattle.sg_store.specs.StoreWords.{StoreWords}
use Rattle.sg_store.specs.Reaching.{IsOpenThrough}

-- a node of a kind
abbrev pub IsOfKind : Kind → NodeShape → NodeWords → ℕ → (ℕ → Bool) → Type 0
IsOfKind kind node kept slots live = node.kind ≡ kind

-- a hash node with this cap
abbrev pub IsHashOf : ℕ → NodeShape → NodeWords → ℕ → (ℕ → Bool) → Type 0
IsHashOf cap node kept slots live = (node.kind ≡ Hash) × (count_of node.cap ≡ cap)

-- a pointer node with this cap
abbrev pub IsPointerOf : ℕ → NodeShape → NodeWords → ℕ → (ℕ → Bool) → Type 0
IsPointerOf cap node kept slots live = (node.kind ≡ Pointer) × (count_of node.cap ≡ cap)

-- whatever was active before: where a store is open through the nodes before this one for it and the wanted
-- coordinates, another is open through this one too
abbrev pub OpensNext : StoreWords → StoreWords → List Coord → ℕ → Type 0
OpensNext before after wanted index =
    (old : List Coord) → IsOpenThrough before old (old ++ wanted) index →
    IsOpenThrough after old (old ++ wanted) (suc index)

-- whatever was active before: where the store is open through the nodes before this one for it and the wanted
-- coordinates, this one is reached in more slots than its cap
abbrev pub IsPastCap : StoreWords → List Coord → ℕ → ℕ → Type 0
IsPastCap store wanted index cap =
    (old : List Coord) → IsOpenThrough store old (old ++ wanted) index →
    cap < length (reached_slots store.shape (old ++ wanted) (suc index))

-- the refusal names this node and its cap, which is too small: whatever was active before, where the store is open through
-- the nodes before this one for it and the wanted coordinates, the node needs more
pub record IsFullNode (store : StoreWords) (wanted : List Coord) (index : ℕ) (full : Full) : Type 0 where
  pub number : full.node ≡ suc index
  pub node : NodeShape
  pub there : slice_get store.shape.nodes index ≡ Some node
  pub cap_is : count_of node.cap ≡ full.cap
  pub past : (old : List Coord) → IsOpenThrough store old (old ++ wanted) index →
      full.cap < need_of store.shape (old ++ wanted) (suc index) node

-- a fact of the refusal, and nothing if memory ran out
abbrev pub IfRefused : {E : Type 0} → (E → Type 0) → Stop E → Type 0
IfRefused Says stop.Memory = Unit {0}
IfRefused Says (stop.Refused fault) = Says fault
