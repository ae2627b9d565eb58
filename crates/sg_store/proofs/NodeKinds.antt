-- The node with an index, by its kind.
use Rattle.std.proofs.Common.{◌≡◌, ℕ, suc, ◌<◌, ◌≤◌, true, List, ◌++◌, length, get_or, refl, sym, ap, ◌∙◌, arith, inl, inr, cond}
use Rattle.std.specs.Prelude.{Some, Result, Ok, Err, IfErr, slice_get}
use Rattle.sg_words.specs.declared.memory.Stop.{Stop}
use Rattle.sg_words.specs.declared.memory.Stop.TheVariants as stop
use Rattle.std.proofs.lemmas.Bool.{cases_eq, leb-true, le-leb}
use Rattle.std.proofs.lemmas.Option.{same_Some, slice_get_read, slice_get_within}
use Rattle.sg_coord.specs.declared.coord.Coord.{Coord}
use Rattle.sg_layout.specs.declared.shape.Kind.{Kind}
use Rattle.sg_layout.specs.declared.shape.Kind.TheVariants.{Dense, Pointer, Hash, Dynamic}
use Rattle.sg_layout.specs.declared.shape.NodeShape.{NodeShape}
use Rattle.sg_layout.specs.Axes.{count_of}
use Rattle.sg_layout.specs.StorageWords.{ends_segment}
use Rattle.sg_layout.specs.Live.{kind_at, is_live}
use Rattle.sg_layout.specs.Need.{reached_slots, need_of}
use Rattle.sg_store.specs.declared.reach.Full.{Full}
use Rattle.sg_store.specs.StoreWords.{StoreWords}
use Rattle.sg_store.specs.WellFormed.{IsWellFormed, is_root}
use Rattle.sg_store.specs.steps.AtNode.{AtNodeOf}
use Rattle.sg_store.specs.steps.Levels.{IsOfKind, IsPointerOf, IsHashOf, OpensNext, IsPastCap, IsFullNode, IfRefused}
use Rattle.sg_store.specs.steps.Raising.{IsDynamicOf}
use Rattle.sg_store.proofs.NodeNeed.{need_linked}
use Rattle.sg_store.proofs.Opened.{same_bool}
use Rattle.sg_store.proofs.Counting.{nodes_at, OfWellFormed, at_node_from}
use Rattle.sg_store.proofs.Reached.{kind_there}

-- what is read at an index of a list that is this one
pub read_there : {A : Type 0} → (xs ys : List A) (i : ℕ) (x : A) → xs ≡ ys → i < length ys → x ≡ get_or xs i x → slice_get ys i ≡ Some x
read_there xs ys i x same below is = slice_get_read ys (length ys) i x refl below (is ∙ ap (λ l. get_or l i x) same)

pub of_kind : (store : StoreWords) (i : ℕ) (node : NodeShape) (kind : Kind) → IsWellFormed store → slice_get store.shape.nodes i ≡ Some node → node.kind ≡ kind → AtNodeOf (IsOfKind kind) store i
of_kind store i node kind well at is =
    at_node_from OfWellFormed (IsOfKind kind) store.shape.nodes store.nodes 1 is_root i
    (λ own mine slots live own_at has one. ap (λ (n : NodeShape). n.kind) (same_Some own node (sym own_at ∙ at)) ∙ is)
    (nodes_at store.shape.nodes store.nodes 1 is_root i well.nodes_fit (slice_get_within store.shape.nodes i node at))

pub pointer_of : (store : StoreWords) (i : ℕ) (node : NodeShape) (cap : ℕ) → IsWellFormed store → slice_get store.shape.nodes i ≡ Some node → node.kind ≡ Pointer → cap ≡ count_of node.cap → AtNodeOf (IsPointerOf cap) store i
pointer_of store i node cap well at is cap_is =
    at_node_from OfWellFormed (IsPointerOf cap) store.shape.nodes store.nodes 1 is_root i
    (λ own mine slots live own_at has one.
    let same : own ≡ node = same_Some own node (sym own_at ∙ at) in
    (ap (λ (n : NodeShape). n.kind) same ∙ is, ap (λ (n : NodeShape). count_of n.cap) same ∙ sym cap_is))
    (nodes_at store.shape.nodes store.nodes 1 is_root i well.nodes_fit (slice_get_within store.shape.nodes i node at))

pub hash_of : (store : StoreWords) (i : ℕ) (node : NodeShape) (cap : ℕ) → IsWellFormed store → slice_get store.shape.nodes i ≡ Some node → node.kind ≡ Hash → cap ≡ count_of node.cap → AtNodeOf (IsHashOf cap) store i
hash_of store i node cap well at is cap_is =
    at_node_from OfWellFormed (IsHashOf cap) store.shape.nodes store.nodes 1 is_root i
    (λ own mine slots live own_at has one.
    let same : own ≡ node = same_Some own node (sym own_at ∙ at) in
    (ap (λ (n : NodeShape). n.kind) same ∙ is, ap (λ (n : NodeShape). count_of n.cap) same ∙ sym cap_is))
    (nodes_at store.shape.nodes store.nodes 1 is_root i well.nodes_fit (slice_get_within store.shape.nodes i node at))

pub dynamic_of : (store : StoreWords) (i : ℕ) (node : NodeShape) (cap chunk : ℕ) → IsWellFormed store → slice_get store.shape.nodes i ≡ Some node → node.kind ≡ Dynamic → cap ≡ count_of node.cap → chunk ≡ count_of node.chunk → AtNodeOf (IsDynamicOf cap chunk) store i
dynamic_of store i node cap chunk well at is cap_is chunk_is =
    at_node_from OfWellFormed (IsDynamicOf cap chunk) store.shape.nodes store.nodes 1 is_root i
    (λ own mine slots live own_at own_has one.
    let same : own ≡ node = same_Some own node (sym own_at ∙ at) in
    record {
      is_dynamic = ap (λ (n : NodeShape). n.kind) same ∙ is;
      cap_is = ap (λ (n : NodeShape). count_of n.cap) same ∙ sym cap_is;
      chunk_is = ap (λ (n : NodeShape). count_of n.chunk) same ∙ sym chunk_is;
    })
    (nodes_at store.shape.nodes store.nodes 1 is_root i well.nodes_fit (slice_get_within store.shape.nodes i node at))

-- a dense node opens by itself
pub dense_opens : (store : StoreWords) (i : ℕ) (node : NodeShape) (wanted : List Coord) → slice_get store.shape.nodes i ≡ Some node → node.kind ≡ Dense → OpensNext store store wanted i
dense_opens store i node wanted at is old was_open number slot is_slot =
    was_open number slot is_slot
    ∙ ap (λ b. is_live store.shape (cond b (old ++ wanted) old) number slot) (same_bool _ _
    (λ h. let low : number ≤ i = leb-true number i h in le-leb number (suc i) (omega arith))
    (λ h. let low : number ≤ suc i = leb-true number (suc i) h in elim (cases_eq number (suc i)) [
      | inl here ↦ absurd (is_slot.has_activity (ap (λ n. kind_at store.shape.nodes n) here ∙ kind_there store.shape.nodes i node at ∙ is))
      | inr other ↦ le-leb number i (omega arith)
    ]))

-- the refusal of a node with child containers, as that of a node
pub full_node : (store : StoreWords) (wanted : List Coord) (i cap : ℕ) (node : NodeShape) (r : Result Unit (Stop Full)) → slice_get store.shape.nodes i ≡ Some node → ends_segment node.kind ≡ true → cap ≡ count_of node.cap → IfErr r (IfRefused (λ full. (full ≡ record { node = suc i; cap = cap }) × IsPastCap store wanted i cap)) → IfErr r (IfRefused (IsFullNode store wanted i))
full_node store wanted i cap node (Ok done) at linked cap_is h = tt
full_node store wanted i cap node (Err stop.Memory) at linked cap_is h = tt
full_node store wanted i cap node (Err (stop.Refused full)) at linked cap_is h =
    let same : full.cap ≡ cap = ap (λ (f : Full). f.cap) h.0 in
    record {
      number = ap (λ (f : Full). f.node) h.0;
      node = node;
      there = at;
      cap_is = sym cap_is ∙ sym same;
      past = λ old was_open.
          let need : need_of store.shape (old ++ wanted) (suc i) node ≡ length (reached_slots store.shape (old ++ wanted) (suc i)) =
          need_linked node.kind store.shape (old ++ wanted) (suc i) (count_of node.chunk) linked in
          omega (arith, same, need, h.1 old was_open);
    }
