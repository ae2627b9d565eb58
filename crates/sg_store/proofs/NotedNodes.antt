-- What the slots of a node of each kind have, once they are written beside the numbers that they hold.
use Rattle.std.proofs.Common.{◌≡◌, ℕ, suc, ◌-◌, ◌/◌, ◌%◌, ◌≤◌, Bool, List, [], length, sym, ap, ◌∙◌, subst, arith, inl, inr}
use Rattle.std.specs.Prelude.{Some, slice_index}
use Rattle.std.proofs.lemmas.Bool.{cases_lt}
use Rattle.std.proofs.lemmas.Nat.{div-add-mod'}
use Rattle.std.proofs.lemmas.List.{get_or_past}
use Rattle.sg_layout.specs.declared.shape.Kind.{Kind}
use Rattle.sg_layout.specs.declared.shape.Kind.TheVariants.{Pointer, Hash, Dynamic}
use Rattle.sg_layout.specs.declared.shape.NodeShape.{NodeShape}
use Rattle.sg_layout.specs.Axes.{count_of, size_of}
use Rattle.sg_links.specs.Lists.{list_of}
use Rattle.sg_links.proofs.Uses.{there_is_list}
use Rattle.sg_pool.specs.Numbers.{place_count}
use Rattle.sg_pool.proofs.Uses.{live_is_number}
use Rattle.sg_store.specs.declared.node.NodeWords.{NodeWords}
use Rattle.sg_store.specs.WellFormed.{IsNode, IsPointerNode, IsHashNode, IsDynamicNode}
use Rattle.sg_store.specs.Links.{held_at, full_chain}
use Rattle.sg_store.specs.steps.Noting.{AreBelow, IsLinkedOnce, HeldSoFar, ChainsNoted, IsSomeNode, HasSlots}
use Rattle.sg_store.proofs.Walking.{linked_is, index_contains}
use Rattle.sg_store.proofs.Counting.{index_within}
use Rattle.sg_store.proofs.KeyPlaces.{slot_of_link, key_place, links_once}
use Rattle.sg_store.proofs.HeldLive.{chunks_rise}

-- the node as one of its kind
pub as_kind : (node : NodeShape) (kept : NodeWords) (kind : Kind) → node.kind ≡ kind → IsSomeNode node kept → (slots : ℕ) × (live : ℕ → Bool) × IsNode kind node kept slots live
as_kind node kept kind e some = (some.0, some.1, subst (λ k. IsNode k node kept some.0 some.1) e some.2)

-- ── Pointer ──

pub pointer_below : (node : NodeShape) (kept : NodeWords) (slots : ℕ) (live : ℕ → Bool) → IsPointerNode node kept slots live → AreBelow kept.links (place_count kept.pool)
pointer_below node kept slots live is place number at = live_is_number kept.pool number ((is.live_linked number).1 (index_contains kept.links place number at))

pub pointer_slots : (node : NodeShape) (kept : NodeWords) (old slots : List ℕ) → node.kind ≡ Pointer → length old ≡ place_count kept.pool → HeldSoFar (λ place. place) kept.links old slots (length kept.links) → HasSlots node kept slots
pointer_slots node kept old slots e many noted = record {
  as_many = noted.as_many ∙ many;
  held = subst (λ k. (slot number : ℕ) → held_at k node kept slot ≡ Some number → slice_index slots number ≡ slot) (sym e)
      (λ slot number holds.
      let word : slice_index kept.links slot ≡ suc number = linked_is (slice_index kept.links slot) number holds in
      noted.held slot number (index_within kept.links slot (λ none. absurd (let h : suc number ≡ 0 = sym word ∙ none in omega arith))) word);
}

-- ── Hash ──

pub hash_below : (node : NodeShape) (kept : NodeWords) (slots : ℕ) (live : ℕ → Bool) → IsHashNode node kept slots live → AreBelow kept.links (place_count kept.pool)
hash_below node kept slots live is place number at =
    let found = slot_of_link kept.keys kept.links slots place number is.table is.links_beside is.keys_are_slots at in
    live_is_number kept.pool number ((is.as_pointer.live_linked number).1 (index_contains _ found.0 number found.3))

pub hash_once : (node : NodeShape) (kept : NodeWords) (slots : ℕ) (live : ℕ → Bool) → IsHashNode node kept slots live → IsLinkedOnce kept.links
hash_once node kept slots live is = links_once kept.keys kept.links slots is.table is.links_beside is.keys_are_slots is.as_pointer.once

pub hash_slots : (node : NodeShape) (kept : NodeWords) (all : ℕ) (live : ℕ → Bool) (old slots : List ℕ) → node.kind ≡ Hash → IsHashNode node kept all live → length old ≡ place_count kept.pool → HeldSoFar (λ place. slice_index kept.keys place - 1) kept.links old slots (length kept.links) → HasSlots node kept slots
hash_slots node kept all live old slots e is many noted = record {
  as_many = noted.as_many ∙ many;
  held = subst (λ k. (slot number : ℕ) → held_at k node kept slot ≡ Some number → slice_index slots number ≡ slot) (sym e)
      (λ slot number holds.
      let found = key_place kept.keys kept.links slot number is.links_beside holds in
      let below = index_within kept.links found.0 (λ none. absurd (let h : suc number ≡ 0 = sym found.2 ∙ none in omega arith)) in
      omega (arith, noted.held found.0 number below found.2, found.1));
}

-- ── Dynamic ──

pub chains_short : (node : NodeShape) (kept : NodeWords) (slots : ℕ) (live : ℕ → Bool) → IsDynamicNode node kept slots live → (head : ℕ) → length (list_of kept.chains head) ≤ full_chain node
chains_short node kept slots live is head = elim (cases_lt head (length kept.lengths)) [
  | inl below ↦ omega (arith, is.chains_fit head below, chunks_rise (count_of node.chunk) (slice_index kept.lengths head) (size_of node.sizes) is.some_chunk (is.short head))
  | inr past ↦
      let none : list_of kept.chains head ≡ [] = get_or_past kept.chains.lists head [] (omega (arith, past, is.chain_count)) in
      omega (arith, ap length none)
]

pub dynamic_slots : (node : NodeShape) (kept : NodeWords) (old slots : List ℕ) → node.kind ≡ Dynamic → length old ≡ place_count kept.pool → ChainsNoted kept.chains (full_chain node) (length kept.chains.lists) old slots → HasSlots node kept slots
dynamic_slots node kept old slots e many noted = record {
  as_many = noted.as_many ∙ many;
  held = subst (λ k. (slot number : ℕ) → held_at k node kept slot ≡ Some number → slice_index slots number ≡ slot) (sym e)
      (λ slot number holds.
      let full : ℕ = full_chain node in
      noted.here (slot / full) (slot % full) number (there_is_list kept.chains number (slot / full) (slot % full) holds) holds ∙ div-add-mod' slot full);
}

-- ── A node that holds nothing ──

pub no_slots : (node : NodeShape) (kept : NodeWords) (kind : Kind) (slots : List ℕ) → node.kind ≡ kind → ((slot number : ℕ) → held_at kind node kept slot ≡ Some number → ⊥) → length slots ≡ place_count kept.pool → HasSlots node kept slots
no_slots node kept kind slots e none many = record {
  as_many = many;
  held = λ slot number holds. absurd (none slot number (sym (ap (λ k. held_at k node kept slot) e) ∙ holds));
}
