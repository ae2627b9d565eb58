-- One step down a node of each kind, as the code takes it.
use Rattle.std.proofs.Common.{◌≡◌, ℕ, ◌+◌, ◌*◌, ◌/◌, ◌%◌, ◌<◌, Bool, true, false, cond, slice_index, nat_lt, refl, sym, ap, ◌∙◌, subst}
use Rattle.std.specs.Prelude.{Option, Some, None, is_some}
use Rattle.std.proofs.lemmas.Nat.{div-mul-add, mod-mul-add}
use Rattle.sg_links.specs.Lists.{list_of}
use Rattle.sg_hash.specs.Tables.{beside}
use Rattle.sg_layout.specs.declared.shape.Kind.{Kind}
use Rattle.sg_layout.specs.declared.shape.Kind.TheVariants.{Dense, Bitmasked, Pointer, Hash, Dynamic}
use Rattle.sg_layout.specs.declared.shape.NodeShape.{NodeShape}
use Rattle.sg_layout.specs.Axes.{count_of, size_of}
use Rattle.sg_store.specs.declared.node.NodeWords.{NodeWords}
use Rattle.sg_store.specs.Slots.{mask_bit, linked, chunk_cell, is_set, place_below}
use Rattle.sg_store.specs.steps.Walking.{step_of_walk, unless_unset, CanFind, IsTableFor, IsChainFor, IsUnderParent}
use Rattle.sg_store.proofs.BySlots.{set_linked}

-- ── A step by kind ──

open_step : (bits set : Bool) (below : Option ℕ) → unless_unset bits set below ≡ cond bits (cond set below None) below
open_step true set below = refl
open_step false set below = refl

-- if what leads on is what is set, it is looked for alone
set_alone : (bits : Bool) (below : Option ℕ) → unless_unset bits (is_some below) below ≡ below
set_alone true None = refl
set_alone true (Some place) = refl
set_alone false below = refl

step_is : (bits : Bool) (kind : Kind) (node : NodeShape) (kept : NodeWords) (slot : ℕ) → step_of_walk bits kind node kept slot ≡ unless_unset bits (is_set kind node kept slot) (place_below kind node kept slot)
step_is true kind node kept slot = refl
step_is false kind node kept slot = refl

by_kind : (bits : Bool) (kind own : Kind) (node : NodeShape) (kept : NodeWords) (slot : ℕ) → own ≡ kind → step_of_walk bits own node kept slot ≡ unless_unset bits (is_set kind node kept slot) (place_below kind node kept slot)
by_kind bits kind own node kept slot is = ap (λ k. step_of_walk bits k node kept slot) is ∙ step_is bits kind node kept slot

pub dense_step : (bits : Bool) (node : NodeShape) (kept : NodeWords) (slot : ℕ) → node.kind ≡ Dense → Some slot ≡ step_of_walk bits node.kind node kept slot
dense_step bits node kept slot is = sym (set_alone bits (Some slot)) ∙ sym (by_kind bits Dense node.kind node kept slot is)

pub bit_step : (bits : Bool) (node : NodeShape) (kept : NodeWords) (slot : ℕ) → node.kind ≡ Bitmasked → unless_unset bits (mask_bit kept.masks slot) (Some slot) ≡ step_of_walk bits node.kind node kept slot
bit_step bits node kept slot is = sym (by_kind bits Bitmasked node.kind node kept slot is)

pub link_step : (bits : Bool) (node : NodeShape) (kept : NodeWords) (slot : ℕ) → node.kind ≡ Pointer → linked (slice_index kept.links slot) ≡ step_of_walk bits node.kind node kept slot
link_step bits node kept slot is =
    let below : Option ℕ = linked (slice_index kept.links slot) in
    sym (set_alone bits below) ∙ ap (λ (b : Bool). unless_unset bits b below) (set_linked (slice_index kept.links slot)) ∙ sym (by_kind bits Pointer node.kind node kept slot is)

pub key_step : (bits : Bool) (node : NodeShape) (kept : NodeWords) (slot : ℕ) → node.kind ≡ Hash → beside kept.keys kept.links slot ≡ step_of_walk bits node.kind node kept slot
key_step bits node kept slot is = sym (set_alone bits (beside kept.keys kept.links slot)) ∙ sym (by_kind bits Hash node.kind node kept slot is)

pub element_step : (bits : Bool) (node : NodeShape) (kept : NodeWords) (size place offset chunk : ℕ) → node.kind ≡ Dynamic → size ≡ size_of node.sizes → offset < size → chunk ≡ count_of node.chunk
    → unless_unset bits (nat_lt offset (slice_index kept.lengths place)) (chunk_cell chunk (list_of kept.chains place) offset) ≡ step_of_walk bits node.kind node kept (place * size + offset)
element_step bits node kept size place offset chunk is sized below chunk_is =
    let slot : ℕ = place * size + offset in
    let parent : slot / size ≡ place = div-mul-add place size offset below in
    let index : slot % size ≡ offset = mod-mul-add place size offset below in
    ap (λ (c : ℕ). unless_unset bits (nat_lt offset (slice_index kept.lengths place)) (chunk_cell c (list_of kept.chains place) offset)) chunk_is
    ∙ ap (λ (p : ℕ). unless_unset bits (nat_lt offset (slice_index kept.lengths p)) (chunk_cell (count_of node.chunk) (list_of kept.chains p) offset)) (sym parent)
    ∙ ap (λ (o : ℕ). unless_unset bits (nat_lt o (slice_index kept.lengths (slot / size))) (chunk_cell (count_of node.chunk) (list_of kept.chains (slot / size)) o)) (sym index)
    ∙ ap (λ (n : ℕ). unless_unset bits (nat_lt (slot % n) (slice_index kept.lengths (slot / n))) (chunk_cell (count_of node.chunk) (list_of kept.chains (slot / n)) (slot % n))) sized
    ∙ sym (by_kind bits Dynamic node.kind node kept slot is)

-- ── What has to be there ──

pub table_there : (node : NodeShape) (kept : NodeWords) (slot : ℕ) → node.kind ≡ Hash → CanFind node.kind node kept slot → IsTableFor kept.keys kept.links slot
table_there node kept slot is can = let P : Kind → Type 0 = λ k. CanFind k node kept slot in subst P is can

pub chain_there : (node : NodeShape) (kept : NodeWords) (size place offset chunk : ℕ) → node.kind ≡ Dynamic → size ≡ size_of node.sizes → offset < size → chunk ≡ count_of node.chunk → CanFind node.kind node kept (place * size + offset) → IsChainFor kept.chains chunk place offset
chain_there node kept size place offset chunk is sized below chunk_is can =
    let P : Kind → Type 0 = λ k. CanFind k node kept (place * size + offset) in
    let own : IsUnderParent node kept (place * size + offset) = subst P is can in
    let parent : (place * size + offset) / size ≡ place = div-mul-add place size offset below in
    let index : (place * size + offset) % size ≡ offset = mod-mul-add place size offset below in
    subst (λ (c : ℕ). IsChainFor kept.chains c place offset) (sym chunk_is)
    (subst (λ (p : ℕ). IsChainFor kept.chains (count_of node.chunk) p offset) parent
    (subst (λ (o : ℕ). IsChainFor kept.chains (count_of node.chunk) ((place * size + offset) / size) o) index
    (subst (λ (n : ℕ). IsChainFor kept.chains (count_of node.chunk) ((place * size + offset) / n) ((place * size + offset) % n)) (sym sized) own.chain)))
