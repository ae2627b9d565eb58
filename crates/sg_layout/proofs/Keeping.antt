-- Nodes without a fault keep the rules.
use Rattle.std.proofs.Common.{◌≡◌, ℕ, suc, true, false, not, cond, Bool, Option, Some, None, List, ◌∷◌, refl}
use Rattle.std.proofs.lemmas.Bool.{and_parts}
use Rattle.sg_words.proofs.Uses.{neither}
use Rattle.sg_layout.specs.declared.shape.NodeShape.{NodeShape}
use Rattle.sg_layout.specs.declared.layout.LayoutFault.{LayoutFault}
use Rattle.sg_layout.specs.declared.layout.LayoutFault.TheVariants.{BadExtent, BadOrder, BadAxis, BadCap}
use Rattle.sg_layout.specs.Rules.{has_good_extents, has_good_order, names_axes_once, has_few_axes, has_good_axes, has_good_caps, node_fault, first_node_fault}
use Rattle.sg_layout.specs.RuleLaws.{KeepsRules}

passes : (good : Bool) (fault : LayoutFault) (rest : Option LayoutFault) → cond (not good) (Some fault) rest ≡ None → (good ≡ true) × (rest ≡ None)
passes true fault rest none = (refl, none)
passes false fault rest none = cc

pub keeps : (axes number : ℕ) (node : NodeShape) (later : List NodeShape) → node_fault axes number node later ≡ None → KeepsRules axes number node later
keeps axes number node later none =
    let first = passes (has_good_extents node) (BadExtent number) _ none in
    let second = passes (has_good_order node.kind number later) (BadOrder number) _ first.1 in
    let third = passes (has_good_axes axes node) (BadAxis number) _ second.1 in
    let fourth = passes (has_good_caps node.kind node) (BadCap number) None third.1 in
    record { extents = first.0; order = second.0; names = third.0; caps = fourth.0 }

pub names_once : (axes number : ℕ) (node : NodeShape) (later : List NodeShape) → KeepsRules axes number node later → names_axes_once axes node.sizes ≡ true
names_once axes number node later keep =
    (and_parts (names_axes_once axes node.sizes) (has_few_axes node.kind node.sizes) keep.names).0

-- nodes without a fault: the first of them keeps the rules, and the later ones have none
pub faultless_head : (axes number : ℕ) (node : NodeShape) (later : List NodeShape) → first_node_fault axes number (node ∷ later) ≡ None → KeepsRules axes number node later
faultless_head axes number node later none =
    keeps axes number node later (neither (node_fault axes number node later) (first_node_fault axes (suc number) later) none).0

pub faultless_tail : (axes number : ℕ) (node : NodeShape) (later : List NodeShape) → first_node_fault axes number (node ∷ later) ≡ None → first_node_fault axes (suc number) later ≡ None
faultless_tail axes number node later none =
    (neither (node_fault axes number node later) (first_node_fault axes (suc number) later) none).1
