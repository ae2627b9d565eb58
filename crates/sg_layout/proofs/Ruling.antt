-- The rules decide what is accepted, and a fault is the first.
use Rattle.std.proofs.Common.{◌≡◌, ℕ, zero, suc, ◌+◌, ◌<◌, Bool, true, false, not, cond, Option, Some, None, List, [], ◌∷◌, drop, refl, sym, ap, ◌∙◌, subst, arith, inl, inr, ◌⊎◌}
use Rattle.std.specs.Prelude.{Ok, Err}
use Rattle.std.specs.List.{slice_get}
use Rattle.sg_layout.specs.declared.shape.NodeShape.{NodeShape}
use Rattle.sg_layout.specs.declared.shape.Shape.{Shape}
use Rattle.sg_layout.specs.declared.layout.LayoutFault.{LayoutFault}
use Rattle.sg_layout.specs.declared.layout.LayoutFault.TheVariants.{BadExtent, BadOrder, BadAxis, BadCap, TooLarge}
use Rattle.sg_layout.specs.Axes.{bounds_of_shape}
use Rattle.sg_layout.specs.Rules.{has_good_extents, has_good_order, has_good_axes, has_good_caps, node_fault, first_node_fault, is_small, checked_by}
use Rattle.std.specs.Option.{option_or}
use Rattle.sg_layout.specs.RuleLaws.{KeepsRules, AllKeep, AcceptedKeepsRules, FailsFirst, HasFault, FaultIsFirst}
use Rattle.std.proofs.lemmas.Option.{same_Some}
use Rattle.sg_layout.proofs.Keeping.{keeps, faultless_head, faultless_tail}
use Rattle.sg_layout.proofs.Faultless.{from_checked}

-- a node that keeps the rules has no fault
passed : (good : Bool) (fault : LayoutFault) (rest : Option LayoutFault) → good ≡ true → rest ≡ None → cond (not good) (Some fault) rest ≡ None
passed true fault rest good none = none
passed false fault rest good none = cc

no_fault_here : (axes number : ℕ) (node : NodeShape) (later : List NodeShape) → KeepsRules axes number node later → node_fault axes number node later ≡ None
no_fault_here axes number node later keep =
    passed (has_good_extents node) (BadExtent number) _ keep.extents
    (passed (has_good_order node.kind number later) (BadOrder number) _ keep.order
    (passed (has_good_axes axes node) (BadAxis number) _ keep.names
    (passed (has_good_caps node.kind node) (BadCap number) None keep.caps refl)))

-- the nodes from a number on keep the rules, up to a place
abbrev KeepTo : (axes number : ℕ) → List NodeShape → ℕ → Type 0
KeepTo axes number nodes end =
    (k : ℕ) (node : NodeShape) → k < end → slice_get nodes k ≡ Some node → KeepsRules axes (number + k) node (drop (suc k) nodes)

abbrev KeepAll : (axes number : ℕ) → List NodeShape → Type 0
KeepAll axes number nodes = (k : ℕ) (node : NodeShape) → slice_get nodes k ≡ Some node → KeepsRules axes (number + k) node (drop (suc k) nodes)

first_number : (axes number : ℕ) (first node : NodeShape) (later : List NodeShape) → slice_get (first ∷ later) 0 ≡ Some node → KeepsRules axes number first later → KeepsRules axes (number + 0) node later
first_number axes number first node later there keep =
    let same : first ≡ node = cc in
    let place : number ≡ number + 0 = omega arith in
    subst (λ n. KeepsRules axes n node later) place (subst (λ x. KeepsRules axes number x later) same keep)

keep_all : (axes number : ℕ) (nodes : List NodeShape) → first_node_fault axes number nodes ≡ None → KeepAll axes number nodes
keep_all axes number [] none k node there = cc
keep_all axes number (first ∷ later) none zero node there =
    first_number axes number first node later there (faultless_head axes number first later none)
keep_all axes number (first ∷ later) none (suc k) node there =
    let place : suc number + k ≡ number + suc k = omega arith in
    subst (λ n. KeepsRules axes n node (drop (suc k) later)) place (keep_all axes (suc number) later (faultless_tail axes number first later none) k node there)

joined : (first rest : Option LayoutFault) → first ≡ None → rest ≡ None → option_or first rest ≡ None
joined first rest here there = ap (λ f. option_or f rest) here ∙ there

none_from : (axes number : ℕ) (nodes : List NodeShape) → KeepAll axes number nodes → first_node_fault axes number nodes ≡ None
none_from axes number [] keep = refl
none_from axes number (node ∷ later) keep =
    let place : number + 0 ≡ number = omega arith in
    let here : KeepsRules axes number node later = subst (λ n. KeepsRules axes n node later) place (keep 0 node refl) in
    joined (node_fault axes number node later) (first_node_fault axes (suc number) later) (no_fault_here axes number node later here)
    (none_from axes (suc number) later
    (λ k other there.
    let next : number + suc k ≡ suc number + k = omega arith in
    subst (λ n. KeepsRules axes n other (drop (suc k) later)) next (keep (suc k) other there)))

-- of a shape the first node has the number 1
from_one : (shape : Shape) → KeepAll shape.axes 1 shape.nodes → AllKeep shape
from_one shape keep place node there =
    let same : 1 + place ≡ suc place = omega arith in
    subst (λ n. KeepsRules shape.axes n node (drop (suc place) shape.nodes)) same (keep place node there)

to_one : (shape : Shape) → AllKeep shape → KeepAll shape.axes 1 shape.nodes
to_one shape keep place node there =
    let same : suc place ≡ 1 + place = omega arith in
    subst (λ n. KeepsRules shape.axes n node (drop (suc place) shape.nodes)) same (keep place node there)

small_ok : (small : Bool) (shape : Shape) → small ≡ true → cond small (Ok shape) (Err TooLarge) ≡ Ok shape
small_ok true shape is = refl
small_ok false shape is = cc

pub accepted_keeps_rules : (shape : Shape) → AcceptedKeepsRules shape
accepted_keeps_rules shape = (
  (λ is.
      let parts = from_checked (first_node_fault shape.axes 1 shape.nodes) shape is in
      (from_one shape (keep_all shape.axes 1 shape.nodes parts.0), parts.1)),
  (λ keeps.
      ap (λ f. checked_by f shape) (none_from shape.axes 1 shape.nodes (to_one shape keeps.0))
      ∙ small_ok (is_small (bounds_of_shape shape)) shape keeps.1),
)

-- the first test that fails
abbrev fault_by : (extents order names caps : Bool) → ℕ → Option LayoutFault
fault_by extents order names caps number =
    cond (not extents) (Some (BadExtent number)) (cond (not order) (Some (BadOrder number)) (cond (not names) (Some (BadAxis number)) (cond (not caps) (Some (BadCap number)) None)))

fails_first : (extents order names caps : Bool) (number : ℕ) (fault : LayoutFault) → fault_by extents order names caps number ≡ Some fault → FailsFirst extents order names caps number fault
fails_first false order names caps number fault e =
    subst (λ f. FailsFirst false order names caps number f) (same_Some (BadExtent number) fault e) (refl, refl)
fails_first true false names caps number fault e =
    subst (λ f. FailsFirst true false names caps number f) (same_Some (BadOrder number) fault e) (refl, refl, refl)
fails_first true true false caps number fault e =
    subst (λ f. FailsFirst true true false caps number f) (same_Some (BadAxis number) fault e) (refl, refl, refl, refl)
fails_first true true true false number fault e =
    subst (λ f. FailsFirst true true true false number f) (same_Some (BadCap number) fault e) (refl, refl, refl, refl, refl)
fails_first true true true true number fault e = cc

either : (first rest : Option LayoutFault) (fault : LayoutFault) → option_or first rest ≡ Some fault → (first ≡ Some fault) ⊎ ((first ≡ None) × (rest ≡ Some fault))
either (Some other) rest fault e = inl e
either None rest fault e = inr (refl, e)

-- the first node with a fault, from a number on
record IsFound (axes number : ℕ) (nodes : List NodeShape) (fault : LayoutFault) (place : ℕ) (node : NodeShape) : Type 0 where
  there : slice_get nodes place ≡ Some node
  before : KeepTo axes number nodes place
  has : HasFault axes (number + place) node (drop (suc place) nodes) fault

before_more : (axes number : ℕ) (first : NodeShape) (later : List NodeShape) (end : ℕ) → KeepsRules axes number first later → KeepTo axes (suc number) later end → KeepTo axes number (first ∷ later) (suc end)
before_more axes number first later end here rest zero node below there = first_number axes number first node later there here
before_more axes number first later end here rest (suc k) node below there =
    let place : suc number + k ≡ number + suc k = omega arith in
    subst (λ n. KeepsRules axes n node (drop (suc k) later)) place (rest k node (omega arith) there)

found : (axes number : ℕ) (nodes : List NodeShape) (fault : LayoutFault) → first_node_fault axes number nodes ≡ Some fault → (place : ℕ) × (node : NodeShape) × IsFound axes number nodes fault place node
found axes number [] fault is = cc
found axes number (first ∷ later) fault is = elim (either (node_fault axes number first later) (first_node_fault axes (suc number) later) fault is) [
  | inl here ↦
      let place : number ≡ number + 0 = omega arith in
      let fails = fails_first (has_good_extents first) (has_good_order first.kind number later) (has_good_axes axes first) (has_good_caps first.kind first) number fault here in (
        0,
        first,
        record {
          there = refl;
          before = λ k node below there. absurd (omega arith);
          has = subst (λ n. HasFault axes n first later fault) place fails;
        },
      )
  | inr rest ↦
      let next = found axes (suc number) later fault rest.1 in
      let place : suc number + next.0 ≡ number + suc next.0 = omega arith in (
        suc (next.0),
        next.1,
        record {
          there = next.2.there;
          before = before_more axes number first later next.0 (keeps axes number first later rest.0) next.2.before;
          has = subst (λ n. HasFault axes n next.1 (drop (suc next.0) later) fault) place next.2.has;
        },
      )
]

-- how a shape is refused
refused : (fault : Option LayoutFault) (small : Bool) (shape : Shape) (other : LayoutFault) → is_small (bounds_of_shape shape) ≡ small → checked_by fault shape ≡ Err other → ((fault ≡ None) × (small ≡ false) × (other ≡ TooLarge)) ⊎ (fault ≡ Some other)
refused (Some fault) small shape other is e = inr (let same : fault ≡ other = cc in ap (λ f. Some f) same)
refused None true shape other is e = (let e2 : cond true (Ok shape) (Err TooLarge) ≡ Err other = ap (λ b. cond b (Ok shape) (Err TooLarge)) (sym is) ∙ e in cc)
refused None false shape other is e =
    let e2 : cond false (Ok shape) (Err TooLarge) ≡ Err other = ap (λ b. cond b (Ok shape) (Err TooLarge)) (sym is) ∙ e in
    inl (refl, refl, cc)

pub fault_is_first : (shape : Shape) → FaultIsFirst shape
fault_is_first shape fault is = elim (refused (first_node_fault shape.axes 1 shape.nodes) (is_small (bounds_of_shape shape)) shape fault refl is) [
  | inl large ↦ inl (record { same = large.2; keep = from_one shape (keep_all shape.axes 1 shape.nodes large.0); large = large.1 })
  | inr here ↦
      let first = found shape.axes 1 shape.nodes fault here in
      let same : 1 + first.0 ≡ suc first.0 = omega arith in
      inr (
        first.0,
        first.1,
        record {
          there = first.2.there;
          before = λ place node below there. (let number : 1 + place ≡ suc place = omega arith in subst (λ n. KeepsRules shape.axes n node (drop (suc place) shape.nodes)) number (first.2.before place node below there));
          has = subst (λ n. HasFault shape.axes n first.1 (drop (suc first.0) shape.nodes) fault) same first.2.has;
        },
      )
]
