-- What the nodes of an accepted shape keep.
use Rattle.std.proofs.Common.{◌≡◌, ℕ, zero, suc, ◌^◌, ◌≤◌, Bool, true, false, ltb, leb, None, List, [], ◌∷◌, get_or, drop, refl, sym, ap, ◌∙◌, arith, ℤ, pos, subst}
use Rattle.std.proofs.lemmas.Bool.{and_parts, ltb-true, leb-true, both_ways}
use Rattle.sg_layout.proofs.Uses.{whole_from, faultless_head, faultless_tail, no_fault}
use Rattle.sg_layout.specs.declared.shape.Kind.{Kind}
use Rattle.sg_layout.specs.declared.shape.Kind.TheVariants.{Dense, Bitmasked, Pointer, Hash, Dynamic}
use Rattle.sg_layout.specs.declared.shape.NodeShape.{NodeShape}
use Rattle.sg_layout.specs.declared.shape.Shape.{Shape}
use Rattle.sg_layout.specs.Axes.{count_of}
use Rattle.sg_layout.specs.Accepted.{IsAccepted}
use Rattle.sg_layout.specs.Rules.{has_good_extents, has_good_order, is_cap, has_good_caps, first_node_fault}

-- the node keeps its rules, where these nodes stand below it
pub record IsGoodNode (node : NodeShape) (later : List NodeShape) : Type 0 where
  pub extents : has_good_extents node ≡ true
  pub order : (number : ℕ) × (has_good_order node.kind number later ≡ true)
  pub caps : has_good_caps node.kind node ≡ true

good_node : (axes number : ℕ) (node : NodeShape) (later : List NodeShape) → first_node_fault axes number (node ∷ later) ≡ None → IsGoodNode node later
good_node axes number node later none =
    let keep = faultless_head axes number node later none in
    record { extents = keep.extents; order = (number, keep.order); caps = keep.caps }

none_of_them : (axes number : ℕ) (nodes : List NodeShape) (i : ℕ) (node : NodeShape) (later : List NodeShape) → first_node_fault axes number nodes ≡ None → drop i nodes ≡ node ∷ later → IsGoodNode node later
none_of_them axes number [] zero node later none split = cc
none_of_them axes number [] (suc i) node later none split = cc
none_of_them axes number (first ∷ rest) zero node later none split =
    let is_first : first ≡ node = ap (λ (ns : List NodeShape). get_or ns 0 node) split in
    let is_rest : rest ≡ later = ap (λ (ns : List NodeShape). drop 1 ns) split in
    subst (λ (n : NodeShape). IsGoodNode n later) is_first
    (subst (λ (ns : List NodeShape). IsGoodNode first ns) is_rest (good_node axes number first rest none))
none_of_them axes number (first ∷ rest) (suc i) node later none split =
    none_of_them axes (suc number) rest i node later (faultless_tail axes number first rest none) split

pub good_at : (shape : Shape) (i : ℕ) (node : NodeShape) (later : List NodeShape) → IsAccepted shape → drop i shape.nodes ≡ node ∷ later → IsGoodNode node later
good_at shape i node later accepted split = none_of_them shape.axes 1 shape.nodes i node later (no_fault shape accepted) split

-- nothing stands below a dynamic node
pub last_where_dynamic : (node : NodeShape) (later : List NodeShape) → IsGoodNode node later → node.kind ≡ Dynamic → later ≡ []
last_where_dynamic node [] good is_dynamic = refl
last_where_dynamic node (next ∷ more) good is_dynamic =
    absurd (let known = good.order.1 in let here = ap (λ kind. has_good_order kind good.order.0 (next ∷ more)) is_dynamic in cc)

-- the kinds of nodes that have a cap
abbrev pub has_cap : Kind → Bool
has_cap Dense = false
has_cap Bitmasked = false
has_cap Pointer = true
has_cap Hash = true
has_cap Dynamic = true

pub record IsGoodCap (cap : ℤ) : Type 0 where
  pub low : 1 ≤ count_of cap
  pub high : count_of cap ≤ 65536
  pub whole : cap ≡ pos (count_of cap)

good_cap_from : (cap : ℤ) → is_cap cap ≡ true → IsGoodCap cap
good_cap_from cap good =
    let parts = and_parts (ltb 0 (count_of cap)) (leb (count_of cap) (2 ^ 16)) good in
    let low = ltb-true 0 (count_of cap) parts.0 in
    let high = leb-true (count_of cap) (2 ^ 16) parts.1 in
    record { low = omega arith; high = omega arith; whole = whole_from cap (omega arith) }

caps_by : (kind : Kind) (node : NodeShape) → has_cap kind ≡ true → has_good_caps kind node ≡ true → IsGoodCap node.cap
caps_by Dense node capped good = absurd (both_ways false refl capped)
caps_by Bitmasked node capped good = absurd (both_ways false refl capped)
caps_by Pointer node capped good = good_cap_from node.cap good
caps_by Hash node capped good = good_cap_from node.cap good
caps_by Dynamic node capped good = good_cap_from node.cap (and_parts (is_cap node.cap) _ good).0

pub good_cap : (node : NodeShape) (later : List NodeShape) → IsGoodNode node later → has_cap node.kind ≡ true → IsGoodCap node.cap
good_cap node later good capped = caps_by node.kind node capped good.caps

pub record IsGoodChunk (chunk : ℤ) : Type 0 where
  pub low : 1 ≤ count_of chunk
  pub whole : chunk ≡ pos (count_of chunk)

pub good_chunk : (node : NodeShape) (later : List NodeShape) → IsGoodNode node later → node.kind ≡ Dynamic → IsGoodChunk node.chunk
good_chunk node later good is_dynamic =
    let caps : has_good_caps Dynamic node ≡ true = ap (λ (kind : Kind). has_good_caps kind node) (sym is_dynamic) ∙ good.caps in
    let parts = and_parts (is_cap node.cap) _ caps in
    let low = ltb-true 0 (count_of node.chunk) (and_parts (ltb 0 (count_of node.chunk)) _ parts.1).0 in
    record { low = omega arith; whole = whole_from node.chunk (omega arith) }
