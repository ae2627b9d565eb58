-- The counts of nodes, one after the other.
use Rattle.std.proofs.Common.{◌≡◌, ℕ, suc, ◌+◌, ◌<◌, Bool, true, false, List, [], ◌∷◌, ◌++◌, drop, drop-cons, length, get_or, Some, pos, sym, ap, ◌∙◌, add-one, append_assoc}
use Rattle.std.specs.Prelude.{slice_get}
use Rattle.std.proofs.lemmas.Bool.{cond-true, cond-false}
use Rattle.std.proofs.lemmas.List.{append-nil}
use Rattle.std.proofs.lemmas.Option.{slice_get-get_or, get_or_from_slice_get}
use Rattle.sg_coord.specs.declared.coord.Coord.{Coord}
use Rattle.sg_layout.specs.declared.shape.Kind.TheVariants.{Dense}
use Rattle.sg_layout.specs.declared.shape.NodeShape.{NodeShape}
use Rattle.sg_layout.specs.declared.shape.Shape.{Shape}
use Rattle.sg_layout.specs.Need.{need_of}
use Rattle.sg_store.specs.WellFormed.{kind_has_cap}
use Rattle.sg_image.specs.Counts.{live_text, node_text, nodes_text}

-- the item of a list that is another
pub same_node : (items nodes : List NodeShape) → items ≡ nodes → (i : ℕ) (x node : NodeShape) → x ≡ get_or items i x → slice_get nodes i ≡ Some node → x ≡ node
same_node items nodes same i x node is there = is ∙ ap (λ (ns : List NodeShape). get_or ns i x) same ∙ get_or_from_slice_get nodes i node x there

-- a node with a count
pub counted : (shape : Shape) (active : List Coord) (number own : ℕ) (live : ℕ) (x node : NodeShape) (capped : Bool) (old new : List ℕ) → x ≡ node → own ≡ number → capped ≡ kind_has_cap x.kind → capped ≡ true → live ≡ need_of shape active own node
    → new ≡ old ++ live_text own live → new ≡ old ++ node_text shape active number node
counted shape active number own live x node capped old new same numbered test holds need pushed =
    let here : kind_has_cap node.kind ≡ true = ap (λ (n : NodeShape). kind_has_cap n.kind) (sym same) ∙ sym test ∙ holds in
    pushed ∙ ap (λ (n : ℕ). old ++ live_text own n) need ∙ ap (λ (n : ℕ). old ++ live_text n (need_of shape active n node)) numbered
    ∙ ap (λ (t : List ℕ). old ++ t) (sym (cond-true (kind_has_cap node.kind) (live_text number (need_of shape active number node)) [] here))

-- and one without
pub uncounted : (shape : Shape) (active : List Coord) (number : ℕ) (x node : NodeShape) (capped : Bool) (old : List ℕ) → x ≡ node → capped ≡ kind_has_cap x.kind → capped ≡ false
    → old ≡ old ++ node_text shape active number node
uncounted shape active number x node capped old same test holds =
    let here : kind_has_cap node.kind ≡ false = ap (λ (n : NodeShape). kind_has_cap n.kind) (sym same) ∙ sym test ∙ holds in
    sym (append-nil old) ∙ ap (λ (t : List ℕ). old ++ t) (sym (cond-false (kind_has_cap node.kind) (live_text number (need_of shape active number node)) [] here))

no_node : NodeShape
no_node = record { kind = Dense; sizes = []; cap = pos 0; chunk = pos 0 }

-- one node more
pub nodes_next : (shape : Shape) (active : List Coord) (nodes : List NodeShape) (i : ℕ) (old new whole : List ℕ) → i < length nodes
    → ((node : NodeShape) → slice_get nodes i ≡ Some node → new ≡ old ++ node_text shape active (suc i) node)
    → old ++ nodes_text shape active (suc i) (drop i nodes) ≡ whole → new ++ nodes_text shape active (suc (i + 1)) (drop (i + 1) nodes) ≡ whole
nodes_next shape active nodes i old new whole below pushed so =
    let node = get_or nodes i no_node in
    let here : drop i nodes ≡ node ∷ drop (i + 1) nodes = rw add-one (drop-cons nodes i no_node below) in
    let rest = nodes_text shape active (suc (i + 1)) (drop (i + 1) nodes) in
    let lines : nodes_text shape active (suc i) (drop i nodes) ≡ node_text shape active (suc i) node ++ rest =
    ap (λ (ns : List NodeShape). nodes_text shape active (suc i) ns) here ∙ ap (λ (n : ℕ). node_text shape active (suc i) node ++ nodes_text shape active (suc n) (drop (i + 1) nodes)) (sym (add-one i)) in
    ap (λ (t : List ℕ). t ++ rest) (pushed node (slice_get-get_or nodes i no_node below)) ∙ append_assoc old (node_text shape active (suc i) node) rest
    ∙ ap (λ (t : List ℕ). old ++ t) (sym lines) ∙ so
