-- A hash node by its slots: it keeps and leads on what a pointer node does with the links that stand beside its keys.
use Rattle.std.proofs.Common.{◌≡◌, ℕ, zero, suc, ◌<◌, ◌≤◌, Bool, true, not, List, length, refl, sym, ap, ◌∙◌, arith, inl, inr}
use Rattle.std.specs.Prelude.{Option, Some, None, is_some, slice_index, ◌==◌}
use Rattle.std.proofs.lemmas.Bool.{cases_lt}
use Rattle.std.proofs.lemmas.Bool.Decides.{nat_tests}
use Rattle.std.proofs.lemmas.List.{get_or_past}
use Rattle.std.proofs.lemmas.List.FromFn.{length-map-range_with_len, get_or-map-range_with_len}
use Rattle.sg_hash.specs.Tables.{beside}
use Rattle.sg_layout.specs.declared.shape.Kind.TheVariants.{Pointer, Hash}
use Rattle.sg_layout.specs.declared.shape.NodeShape.{NodeShape}
use Rattle.sg_store.specs.declared.node.NodeWords.{NodeWords}
use Rattle.sg_store.specs.Slots.{linked, link_word, links_by_slot, is_set, place_below}
use Rattle.sg_store.specs.WellFormed.{by_slots, IsHashNode}

pub link_word_linked : (o : Option ℕ) → linked (link_word o) ≡ o
link_word_linked None = refl
link_word_linked (Some n) = refl

some_word : (n : ℕ) → not (suc n == 0) ≡ true
some_word n = grind (arith, nat_tests)

pub set_linked : (word : ℕ) → is_some (linked word) ≡ not (word == 0)
set_linked zero = refl
set_linked (suc n) = sym (some_word n)

pub links_many : (keys links : List ℕ) (slots : ℕ) → length (links_by_slot keys links slots) ≡ slots
links_many keys links slots = length-map-range_with_len (λ slot. link_word (beside keys links slot)) 0 slots

-- the link of a slot that is there
pub slot_link : (keys links : List ℕ) (slots q : ℕ) → q < slots → slice_index (links_by_slot keys links slots) q ≡ link_word (beside keys links q)
slot_link keys links slots q below = get_or-map-range_with_len (λ slot. link_word (beside keys links slot)) 0 slots q q 0 below (omega arith)

none_past : (o : Option ℕ) (q slots : ℕ) → (is_some o ≡ true → q < slots) → slots ≤ q → o ≡ None
none_past None q slots within past = refl
none_past (Some n) q slots within past = absurd (omega (arith, within refl, past))

-- and that of any, where keys are slots
pub linked_beside : (keys links : List ℕ) (slots : ℕ) → ((key : ℕ) → is_some (beside keys links key) ≡ true → key < slots) → (q : ℕ) → linked (slice_index (links_by_slot keys links slots) q) ≡ beside keys links q
linked_beside keys links slots are q = elim (cases_lt q slots) [
  | inl below ↦ ap linked (slot_link keys links slots q below) ∙ link_word_linked (beside keys links q)
  | inr past ↦
      let none : slice_index (links_by_slot keys links slots) q ≡ 0 = get_or_past (links_by_slot keys links slots) q 0 (omega (arith, links_many keys links slots, past)) in
      ap linked none ∙ sym (none_past (beside keys links q) q slots (are q) past)
]

pub hash_leads : (node : NodeShape) (kept : NodeWords) (slots : ℕ) (live : ℕ → Bool) → IsHashNode node kept slots live → (q : ℕ) → place_below Hash node kept q ≡ place_below Pointer node (by_slots kept slots) q
hash_leads node kept slots live is q = sym (linked_beside kept.keys kept.links slots is.keys_are_slots q)

pub hash_set : (node : NodeShape) (kept : NodeWords) (slots : ℕ) (live : ℕ → Bool) → IsHashNode node kept slots live → (q : ℕ) → is_set Hash node kept q ≡ is_set Pointer node (by_slots kept slots) q
hash_set node kept slots live is q =
    ap is_some (sym (linked_beside kept.keys kept.links slots is.keys_are_slots q)) ∙ set_linked (slice_index (links_by_slot kept.keys kept.links slots) q)
