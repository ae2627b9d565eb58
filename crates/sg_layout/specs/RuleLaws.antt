-- The laws of the layout rules.
use Rattle.std.specs.Prelude.{◌≡◌, ◌↔◌, ◌⊎◌, ℕ, ◌<◌, suc, Bool, true, false, List, drop, slice_get, Some, Ok, Err, IsTrue}
use Rattle.sg_layout.specs.declared.shape.NodeShape.{NodeShape}
use Rattle.sg_layout.specs.declared.shape.Shape.{Shape}
use Rattle.sg_layout.specs.declared.layout.LayoutFault.{LayoutFault}
use Rattle.sg_layout.specs.declared.layout.LayoutFault.TheVariants.{BadExtent, BadOrder, BadAxis, TooLarge, BadCap}
use Rattle.sg_layout.specs.Axes.{bounds_of_shape}
use Rattle.sg_layout.specs.Rules.{has_good_extents, has_good_order, has_good_axes, has_good_caps, is_small, checked_shape}

-- the node with this number, before these others, keeps the rules that are about one node
pub record KeepsRules (axes number : ℕ) (node : NodeShape) (later : List NodeShape) : Type 0 where
  pub extents : IsTrue (has_good_extents node)
  pub order : IsTrue (has_good_order node.kind number later)
  pub names : IsTrue (has_good_axes axes node)
  pub caps : IsTrue (has_good_caps node.kind node)

-- each node of the shape keeps them
abbrev pub AllKeep : Shape → Type 0
AllKeep shape =
    (place : ℕ) (node : NodeShape) → slice_get shape.nodes place ≡ Some node →
    KeepsRules shape.axes (suc place) node (drop (suc place) shape.nodes)

-- so does each node before this place, counted from 0
abbrev pub KeepBefore : Shape → ℕ → Type 0
KeepBefore shape end =
    (place : ℕ) (node : NodeShape) → place < end → slice_get shape.nodes place ≡ Some node →
    KeepsRules shape.axes (suc place) node (drop (suc place) shape.nodes)

-- a shape is accepted exactly when all nodes keep the rules and the layout is small
abbrev pub AcceptedKeepsRules : Shape → Type 0
AcceptedKeepsRules shape = (checked_shape shape ≡ Ok shape) ↔ (AllKeep shape × IsTrue (is_small (bounds_of_shape shape)))

-- the fault of the node with this number, by the tests of its rules: the first that fails
abbrev pub FailsFirst : (extents order names caps : Bool) → ℕ → LayoutFault → Type 0
FailsFirst extents order names caps number (BadExtent at) = (at ≡ number) × (extents ≡ false)
FailsFirst extents order names caps number (BadOrder at) = (at ≡ number) × (extents ≡ true) × (order ≡ false)
FailsFirst extents order names caps number (BadAxis at) =
    (at ≡ number) × (extents ≡ true) × (order ≡ true) × (names ≡ false)
FailsFirst extents order names caps number (BadCap at) =
    (at ≡ number) × (extents ≡ true) × (order ≡ true) × (names ≡ true) × (caps ≡ false)
FailsFirst extents order names caps number TooLarge = ⊥

-- the node with this number, before these others, has the fault: it breaks this rule and none that is smaller
abbrev pub HasFault : (axes number : ℕ) → NodeShape → List NodeShape → LayoutFault → Type 0
HasFault axes number node later fault =
    FailsFirst (has_good_extents node) (has_good_order node.kind number later) (has_good_axes axes node)
    (has_good_caps node.kind node) number fault

-- the node at this place has the fault, and all before it keep the rules
pub record IsFirstFault (shape : Shape) (fault : LayoutFault) (place : ℕ) (node : NodeShape) : Type 0 where
  pub there : slice_get shape.nodes place ≡ Some node
  pub before : KeepBefore shape place
  pub has : HasFault shape.axes (suc place) node (drop (suc place) shape.nodes) fault

-- if all nodes keep the rules, the layout is too large
pub record IsTooLarge (shape : Shape) (fault : LayoutFault) : Type 0 where
  pub same : fault ≡ TooLarge
  pub keep : AllKeep shape
  pub large : is_small (bounds_of_shape shape) ≡ false

-- a fault is that of the first node that has one; or all nodes keep the rules, and it is about the whole layout
abbrev pub FaultIsFirst : Shape → Type 0
FaultIsFirst shape =
    (fault : LayoutFault) → checked_shape shape ≡ Err fault →
    IsTooLarge shape fault ⊎ ((place : ℕ) × (node : NodeShape) × IsFirstFault shape fault place node)
