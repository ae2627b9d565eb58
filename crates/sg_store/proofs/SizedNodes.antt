-- Each node of an accepted shape has slots.
use Rattle.std.proofs.Common.{◌≡◌, ℕ, ◌≤◌, ◌<◌, Bool, true, ◌&&◌, List, [], ◌∷◌, length, arith}
use Rattle.std.specs.Prelude.{nat_lt, nat_le}
use Rattle.std.specs.List.{list_all}
use Rattle.std.proofs.lemmas.Bool.{and_parts}
use Rattle.std.proofs.lemmas.Bool.Decides.{nat_tests}
use Rattle.std.proofs.lemmas.List.Elements.{All-cons}
use Rattle.sg_coord.specs.Bounds.{IsBounds}
use Rattle.sg_layout.specs.declared.shape.NodeShape.{NodeShape}
use Rattle.sg_layout.specs.declared.shape.Shape.{Shape}
use Rattle.sg_layout.specs.Axes.{size_of, slots_of, bounds_of_shape}
use Rattle.sg_layout.specs.Accepted.{IsAccepted}
use Rattle.sg_layout.specs.Rules.{is_field}
use Rattle.sg_layout.specs.PathLaws.{SlotsFillVolume}
use Rattle.sg_layout.specs.RuleLaws.{AcceptedKeepsRules}
use Rattle.sg_store.specs.StoreWords.{StoreWords}
use Rattle.sg_store.specs.WellFormed.{IsWellFormed}
use Rattle.sg_store.proofs.Beginning.{roomy_start}
use Rattle.sg_store.proofs.Roomy.{some_parts}
use Rattle.sg_store.proofs.TrimmedWalks.{AreSized}

sized_from : (nodes : List NodeShape) → 1 ≤ slots_of nodes → AreSized nodes
sized_from [] some = λ k d below. absurd (omega (arith, below))
sized_from (node ∷ later) some =
    let parts = some_parts (size_of node.sizes) (slots_of later) some in
    All-cons (λ (n : NodeShape). 1 ≤ size_of n.sizes) node later parts.0 (sized_from later parts.1)

-- and there are some
pub some_nodes : (shape : Shape) → IsAccepted shape → 0 < length shape.nodes
some_nodes shape accepted =
    let axes : Bool = nat_lt 0 shape.axes && nat_le shape.axes 3 in
    let nodes : Bool = nat_lt 0 (length shape.nodes) && nat_le (length shape.nodes) 6 in
    let fields : Bool = nat_lt 0 (length shape.fields) && nat_le (length shape.fields) 16 in
    let typed : Bool = list_all is_field shape.fields in
    let after = (and_parts axes (nodes && (fields && typed)) accepted.declared).1 in
    let those = (and_parts nodes (fields && typed) after).0 in
    above_zero (length shape.nodes) (and_parts (nat_lt 0 (length shape.nodes)) (nat_le (length shape.nodes) 6) those).0
  where
    above_zero : (n : ℕ) → nat_lt 0 n ≡ true → 0 < n
    above_zero n some = grind (arith, nat_tests)

-- by the laws of layouts and coordinates that tell it
pub store_sized : (store : StoreWords) → IsWellFormed store → AcceptedKeepsRules store.shape → SlotsFillVolume store.shape → IsBounds (bounds_of_shape store.shape) → AreSized store.shape.nodes
store_sized store well rules fill bounds =
    sized_from store.shape.nodes (roomy_start store.shape (record { rules = rules; fill = fill; bounds = bounds }) well.accepted well.few_words).some
