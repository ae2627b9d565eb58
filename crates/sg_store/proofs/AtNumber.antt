-- One node of a store by its number, from 1: its shape, its words, and slots of it that stand in live containers.
use Rattle.std.proofs.Common.{◌≡◌, ◌≢◌, ℕ, zero, suc, ◌-◌, ◌/◌, ◌<◌, ◌≤◌, Bool, List, [], ◌∷◌, length, take, refl, sym, ap, ◌∙◌, subst, arith}
use Rattle.std.specs.Prelude.{Option, Some, None, Result, Ok, Err, IfSome, IfNone, IfOk, slice_get}
use Rattle.std.specs.Option.{option_map}
use Rattle.std.proofs.lemmas.Option.{none-some, same_Some, slice_get_within}
use Rattle.sg_coord.specs.declared.coord.Coord.{Coord}
use Rattle.sg_layout.specs.declared.shape.Kind.{Kind}
use Rattle.sg_layout.specs.declared.shape.Kind.TheVariants.{Dense, Bitmasked, Pointer, Hash, Dynamic}
use Rattle.sg_layout.specs.declared.shape.NodeShape.{NodeShape}
use Rattle.sg_layout.specs.Axes.{size_of}
use Rattle.sg_layout.specs.Live.{kind_or, kind_at}
use Rattle.sg_layout.specs.Path.{path}
use Rattle.sg_layout.specs.PathLaws.{PathIsSlot}
use Rattle.sg_layout.specs.Slots.{IsSlot}
use Rattle.sg_store.specs.declared.node.NodeWords.{NodeWords}
use Rattle.sg_store.specs.declared.frame.NodeWidths.{NodeWidths}
use Rattle.sg_store.specs.StoreWords.{StoreWords}
use Rattle.sg_store.specs.Slots.{word_number}
use Rattle.sg_store.specs.Walks.{slot_number_in, slot_in, word_or, word_along, place_in}
use Rattle.sg_store.specs.WellFormed.{IsNode, AreNodes, IsWellFormed, is_root}
use Rattle.sg_store.specs.Opening.{links_or_none, link_words_of, keys_or_none, keys_of, lengths_or_none, lengths_of, masks_or_none, masks_of, pool_or_none, pool_of, IsInLive}
use Rattle.sg_store.specs.steps.Widths.{IsWidths}
use Rattle.sg_store.specs.steps.AtNode.{OfNode, AtNode, AtNodeOf}
use Rattle.sg_store.proofs.Leading.{InLive, number_live}
use Rattle.sg_store.proofs.SlotPaths.{slot_offsets, slot_long}
use Rattle.sg_store.proofs.Stepping.{words_many, size_at}
use Rattle.sg_store.proofs.PathWalks.{there}
use Rattle.sg_store.proofs.Counting.{node_of, Both, both_at, OfWellFormed, nodes_at, at_node_from}

-- the node with this number, whose index is one less, and its words
pub record IsAt (store : StoreWords) (number i : ℕ) (node : NodeShape) (kept : NodeWords) : Type 0 where
  pub well : IsWellFormed store
  pub next : number ≡ suc i
  pub at : slice_get store.shape.nodes i ≡ Some node
  pub has : slice_get store.nodes i ≡ Some kept

shape_there : (nodes : List NodeShape) (i : ℕ) → kind_or (slice_get nodes i) ≢ Dense → (node : NodeShape) × (slice_get nodes i ≡ Some node)
shape_there [] i other = absurd (other refl)
shape_there (node ∷ later) zero other = (node, refl)
shape_there (node ∷ later) (suc i) other = shape_there later i other

-- a node with activity is there
pub at_number : (store : StoreWords) → IsWellFormed store → (number : ℕ) → 1 ≤ number → kind_at store.shape.nodes number ≢ Dense → (node : NodeShape) × (kept : NodeWords) × IsAt store number (number - 1) node kept × (kind_at store.shape.nodes number ≡ node.kind)
at_number store well number first other =
    let i : ℕ = number - 1 in
    let node = shape_there store.shape.nodes i other in
    let below : i < length store.shape.nodes = slice_get_within store.shape.nodes i node.0 node.1 in
    let kept = there store.nodes i (omega (arith, below, words_many store.shape.nodes store.nodes 1 is_root well.nodes_fit)) in
    (node.0, kept.0, record { well = well; next = omega (arith, first); at = node.1; has = kept.1 }, ap kind_or node.1)

pub back_to : (number i : ℕ) → number ≡ suc i → number - 1 ≡ i
back_to number i next = omega (arith, next)

pub links_are : (store : StoreWords) (number i : ℕ) (node : NodeShape) (kept : NodeWords) → IsAt store number i node kept → link_words_of store number ≡ kept.links
links_are store number i node kept is =
    ap (λ k. links_or_none (slice_get store.nodes k)) (back_to number i is.next) ∙ ap links_or_none is.has

pub masks_are : (store : StoreWords) (number i : ℕ) (node : NodeShape) (kept : NodeWords) → IsAt store number i node kept → masks_of store number ≡ kept.masks
masks_are store number i node kept is =
    ap (λ k. masks_or_none (slice_get store.nodes k)) (back_to number i is.next) ∙ ap masks_or_none is.has

pub keys_are : (store : StoreWords) (number i : ℕ) (node : NodeShape) (kept : NodeWords) → IsAt store number i node kept → keys_of store number ≡ kept.keys
keys_are store number i node kept is =
    ap (λ k. keys_or_none (slice_get store.nodes k)) (back_to number i is.next) ∙ ap keys_or_none is.has

pub lengths_are : (store : StoreWords) (number i : ℕ) (node : NodeShape) (kept : NodeWords) → IsAt store number i node kept → lengths_of store number ≡ kept.lengths
lengths_are store number i node kept is =
    ap (λ k. lengths_or_none (slice_get store.nodes k)) (back_to number i is.next) ∙ ap lengths_or_none is.has

pub pool_is : (store : StoreWords) (number i : ℕ) (node : NodeShape) (kept : NodeWords) → IsAt store number i node kept → pool_of store number ≡ kept.pool
pool_is store number i node kept is =
    ap (λ k. pool_or_none (slice_get store.nodes k)) (back_to number i is.next) ∙ ap pool_or_none is.has

pub within_nodes : (store : StoreWords) (number i : ℕ) (node : NodeShape) (kept : NodeWords) → IsAt store number i node kept → i < length store.shape.nodes
within_nodes store number i node kept is = slice_get_within store.shape.nodes i node is.at

-- ── What is known of it among the others ──

-- what its own facts and others say of it
pub says_with : (Extra Says : OfNode) (store : StoreWords) (number i : ℕ) (node : NodeShape) (kept : NodeWords) → IsAt store number i node kept → AtNodeOf Extra store i → ((slots : ℕ) (live : ℕ → Bool) → IsNode node.kind node kept slots live → Extra node kept slots live → Says node kept slots live) → AtNodeOf Says store i
says_with Extra Says store number i node kept is extra follows =
    at_node_from (Both OfWellFormed Extra) Says store.shape.nodes store.nodes 1 is_root i
    (λ own mine slots live at has both.
    let a : own ≡ node = same_Some own node (sym at ∙ is.at) in
    let b : mine ≡ kept = same_Some mine kept (sym has ∙ is.has) in
    let here : IsNode node.kind node kept slots live = subst (λ (n : NodeShape). IsNode n.kind n kept slots live) a (subst (λ (k : NodeWords). IsNode own.kind own k slots live) b both.0) in
    let more : Extra node kept slots live = subst (λ (n : NodeShape). Extra n kept slots live) a (subst (λ (k : NodeWords). Extra own k slots live) b both.1) in
    let says : Says node kept slots live = follows slots live here more in
    subst (λ (n : NodeShape). Says n mine slots live) (sym a) (subst (λ (k : NodeWords). Says node k slots live) (sym b) says))
    (both_at OfWellFormed Extra store.shape.nodes store.nodes 1 is_root i
    (nodes_at store.shape.nodes store.nodes 1 is_root i is.well.nodes_fit (within_nodes store number i node kept is)) extra)

pub says_at : (Says : OfNode) (store : StoreWords) (number i : ℕ) (node : NodeShape) (kept : NodeWords) → IsAt store number i node kept → ((slots : ℕ) (live : ℕ → Bool) → IsNode node.kind node kept slots live → Says node kept slots live) → AtNodeOf Says store i
says_at Says store number i node kept is follows =
    says_with OfWellFormed Says store number i node kept is
    (nodes_at store.shape.nodes store.nodes 1 is_root i is.well.nodes_fit (within_nodes store number i node kept is))
    (λ slots live own same. follows slots live own)

-- a fact of the node alone
pub fact_with : (Extra : OfNode) (Fact : Type 0) (store : StoreWords) (number i : ℕ) (node : NodeShape) (kept : NodeWords) → IsAt store number i node kept → AtNodeOf Extra store i → ((slots : ℕ) (live : ℕ → Bool) → IsNode node.kind node kept slots live → Extra node kept slots live → Fact) → Fact
fact_with Extra Fact store number i node kept is extra follows =
    let Says : OfNode = λ own mine slots live. Fact in
    (node_of Says store.shape.nodes store.nodes 1 is_root i (says_with Extra Says store number i node kept is extra follows)).says

pub fact_at : (Fact : Type 0) (store : StoreWords) (number i : ℕ) (node : NodeShape) (kept : NodeWords) → IsAt store number i node kept → ((slots : ℕ) (live : ℕ → Bool) → IsNode node.kind node kept slots live → Fact) → Fact
fact_at Fact store number i node kept is follows =
    let Says : OfNode = λ own mine slots live. Fact in
    (node_of Says store.shape.nodes store.nodes 1 is_root i (says_at Says store number i node kept is follows)).says

-- ── Slots in live containers ──

-- the word of a slot is numbered as the slot, but at a dynamic node
word_same : (kind : Kind) (node : NodeShape) (q : ℕ) → kind ≢ Dynamic → word_number kind node q ≡ q
word_same Dense node q other = refl
word_same Bitmasked node q other = refl
word_same Pointer node q other = refl
word_same Hash node q other = refl
word_same Dynamic node q other = absurd (other refl)

pub word_is : (store : StoreWords) (number i : ℕ) (node : NodeShape) (kept : NodeWords) (slot : List ℕ) → IsAt store number i node kept → word_along store number slot ≡ option_map (word_number node.kind node) (slot_number_in store.shape.nodes store.nodes 0 slot)
word_is store number i node kept slot is =
    ap (λ n. option_map (word_or n) (slot_number_in store.shape.nodes store.nodes 0 slot))
    (ap (slice_get store.shape.nodes) (back_to number i is.next) ∙ is.at)

pub slot_word : (store : StoreWords) (number i : ℕ) (node : NodeShape) (kept : NodeWords) (slot : List ℕ) → IsAt store number i node kept → node.kind ≢ Dynamic → word_along store number slot ≡ slot_number_in store.shape.nodes store.nodes 0 slot
slot_word store number i node kept slot is other =
    word_is store number i node kept slot is ∙ same (slot_number_in store.shape.nodes store.nodes 0 slot)
  where
    same : (o : Option ℕ) → option_map (word_number node.kind node) o ≡ o
    same None = refl
    same (Some q) = ap Some (word_same node.kind node q other)

-- as the code reads it
pub word_none : (store : StoreWords) (i : ℕ) (at : Coord) → slot_in store (suc i) at ≡ None → place_in store (suc i) at ≡ None
word_none store i at none = ap (option_map (word_or (slice_get store.shape.nodes (suc i - 1)))) none

pub word_some : (store : StoreWords) (i : ℕ) (at : Coord) (q word : ℕ) (widths : NodeWidths) → i < length store.shape.nodes → IsWidths store.shape.nodes i widths → ((node : NodeShape) → widths.size ≡ size_of node.sizes → word ≡ word_number widths.kind node q) → slot_in store (suc i) at ≡ Some q → place_in store (suc i) at ≡ Some word
word_some store i at q word widths below is number e =
    let node = there store.shape.nodes i below in
    let back : suc i - 1 ≡ i = omega arith in
    ap (option_map (word_or (slice_get store.shape.nodes (suc i - 1)))) e
    ∙ ap (λ n. Some (word_or n q)) (ap (slice_get store.shape.nodes) back ∙ node.1)
    ∙ ap Some (sym (number node.0 (is.size_is ∙ size_at store.shape.nodes i node.0 node.1) ∙ ap (λ k. word_number k node.0 q) (is.kind_is node.0 node.1)))

-- links lead to a slot in a live container
number_in_live : (store : StoreWords) (number i : ℕ) (node : NodeShape) (kept : NodeWords) (path : List ℕ) (q : ℕ) → IsAt store number i node kept → IsSlot (take number store.shape.nodes) path → slot_number_in store.shape.nodes store.nodes 0 path ≡ Some q → AtNodeOf (InLive q) store i
number_in_live store number i node kept path q is is_slot at =
    let nodes : List NodeShape = store.shape.nodes in
    let slot : IsSlot (take (suc i) nodes) path = subst (λ n. IsSlot (take n nodes) path) is.next is_slot in
    number_live nodes store.nodes 1 is_root is.well.nodes_fit 0 (omega arith) refl path (slot_offsets nodes (suc i) path slot) i
    (slot_long nodes (suc i) path (omega (arith, within_nodes store number i node kept is)) slot) q at

pub in_live_at : (store : StoreWords) (number i : ℕ) (node : NodeShape) (kept : NodeWords) (q : ℕ) → IsAt store number i node kept → node.kind ≢ Dynamic → IsInLive store number q → AtNodeOf (InLive q) store i
in_live_at store number i node kept q is other led =
    number_in_live store number i node kept led.path q is led.is_slot
    (sym (slot_word store number i node kept led.path is other) ∙ led.has_number)

-- the length of a parent in a live container: a slot of the parent is in one
pub parent_in_live : (store : StoreWords) (number i : ℕ) (node : NodeShape) (kept : NodeWords) (parent : ℕ) → IsAt store number i node kept → node.kind ≡ Dynamic → IsInLive store number parent → (q : ℕ) × (q / size_of node.sizes ≡ parent) × AtNodeOf (InLive q) store i
parent_in_live store number i node kept parent is dynamic led =
    let found = of_map (slot_number_in store.shape.nodes store.nodes 0 led.path)
    (ap (λ k. option_map (word_number k node) (slot_number_in store.shape.nodes store.nodes 0 led.path)) (sym dynamic)
    ∙ sym (word_is store number i node kept led.path is) ∙ led.has_number) in
    (found.0, found.2, number_in_live store number i node kept led.path found.0 is led.is_slot found.1)
  where
    of_map : (o : Option ℕ) → option_map (word_number Dynamic node) o ≡ Some parent → (q : ℕ) × (o ≡ Some q) × (q / size_of node.sizes ≡ parent)
    of_map None e = absurd (none-some parent e)
    of_map (Some q) e = (q, refl, same_Some _ parent e)

-- the slot of a coordinate, if it has a number
pub place_live : (store : StoreWords) (number : ℕ) (at : Coord) (q : ℕ) → IsWellFormed store → PathIsSlot store.shape → place_in store number at ≡ Some q → IsInLive store number q
place_live store number at q well paths e = record { path = path store.shape at number; is_slot = paths well.accepted at number; has_number = e }

-- all slots of a kind are so
abbrev pub EachInLive : (ℕ → Type 0) → OfNode
EachInLive Which node kept slots live = (q : ℕ) → Which q → InLive q node kept slots live

pub each_at : (Which : ℕ → Type 0) (nodes : List NodeShape) (words : List NodeWords) (places : ℕ) (live : ℕ → Bool) (i : ℕ) → AreNodes nodes words places live → i < length nodes → ((q : ℕ) → Which q → AtNode (InLive q) nodes words places live i) → AtNode (EachInLive Which) nodes words places live i
each_at Which [] words places live i are below each = absurd (omega (arith, below))
each_at Which (node ∷ later) [] places live i are below each = absurd are
each_at Which (node ∷ later) (kept ∷ words) places live zero are below each = each
each_at Which (node ∷ later) (kept ∷ words) places live (suc i) are below each = each_at Which later words _ _ i are.2 (omega (arith, below)) each

pub each_in_live : (Which : ℕ → Type 0) (store : StoreWords) (number i : ℕ) (node : NodeShape) (kept : NodeWords) → IsAt store number i node kept → node.kind ≢ Dynamic → ((q : ℕ) → Which q → IsInLive store number q) → AtNodeOf (EachInLive Which) store i
each_in_live Which store number i node kept is other each =
    each_at Which store.shape.nodes store.nodes 1 is_root i is.well.nodes_fit (within_nodes store number i node kept is)
    (λ q which. in_live_at store number i node kept q is other (each q which))

-- what is said of each of some slots
abbrev pub EachSlot : (ℕ → Type 0) → (ℕ → OfNode) → OfNode
EachSlot Which Says node kept slots live = (q : ℕ) → Which q → Says q node kept slots live

each_slot_at : (Which : ℕ → Type 0) (Says : ℕ → OfNode) (nodes : List NodeShape) (words : List NodeWords) (places : ℕ) (live : ℕ → Bool) (i : ℕ) → AreNodes nodes words places live → i < length nodes → ((q : ℕ) → Which q → AtNode (Says q) nodes words places live i) → AtNode (EachSlot Which Says) nodes words places live i
each_slot_at Which Says [] words places live i are below each = absurd (omega (arith, below))
each_slot_at Which Says (node ∷ later) [] places live i are below each = absurd are
each_slot_at Which Says (node ∷ later) (kept ∷ words) places live zero are below each = each
each_slot_at Which Says (node ∷ later) (kept ∷ words) places live (suc i) are below each = each_slot_at Which Says later words _ _ i are.2 (omega (arith, below)) each

pub each_slot : (Which : ℕ → Type 0) (Says : ℕ → OfNode) (store : StoreWords) (number i : ℕ) (node : NodeShape) (kept : NodeWords) → IsAt store number i node kept → ((q : ℕ) → Which q → AtNodeOf (Says q) store i) → AtNodeOf (EachSlot Which Says) store i
each_slot Which Says store number i node kept is each =
    each_slot_at Which Says store.shape.nodes store.nodes 1 is_root i is.well.nodes_fit (within_nodes store number i node kept is) each

-- ── What calls answer ──

pub if_some : {A : Type 0} → (o : Option A) (Says : A → Type 0) → ((x : A) → o ≡ Some x → Says x) → IfSome o Says
if_some None Says h = tt
if_some (Some x) Says h = h x refl

pub if_ok : {A E : Type 0} → (r : Result A E) (Was Says : A → Type 0) → ((x : A) → Was x → Says x) → IfOk r Was → IfOk r Says
if_ok (Ok x) Was Says h was = h x was
if_ok (Err e) Was Says h was = tt

pub some_from : {A : Type 0} → (o : Option A) (Was Says : A → Type 0) → ((x : A) → Was x → Says x) → IfSome o Was → IfSome o Says
some_from None Was Says h was = tt
some_from (Some x) Was Says h was = h x was

pub none_from : {A : Type 0} → (o : Option A) (Was Says : Type 0) → (Was → Says) → IfNone o Was → IfNone o Says
none_from None Was Says h was = h was
none_from (Some x) Was Says h was = tt
