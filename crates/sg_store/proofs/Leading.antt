-- Numbers of slots and slots: the number of a slot to which links lead is in a live container, and each number in a
-- live container is that of a slot.
use Rattle.std.proofs.Common.{◌≡◌, ◌≢◌, ℕ, zero, suc, ◌+◌, ◌*◌, ◌/◌, ◌%◌, ◌<◌, Bool, true, List, [], ◌∷◌, length, refl, sym, ap, ◌∙◌, subst, arith}
use Rattle.std.specs.Prelude.{Some, option_and_then, slice_index}
use Rattle.std.proofs.Math.Nat.{div-lt_iff_lt-mul, pos_of_ne-zero}
use Rattle.std.proofs.lemmas.Nat.{div-mul-add, mul-add-lt, mod_below, div-add-mod'}
use Rattle.std.proofs.lemmas.List.{get_or_default}
use Rattle.std.proofs.lemmas.Option.{none-some, same_Some, option_and_then_some}
use Rattle.sg_layout.specs.declared.shape.Kind.{Kind}
use Rattle.sg_layout.specs.declared.shape.Kind.TheVariants.{Dense, Bitmasked, Pointer, Hash, Dynamic}
use Rattle.sg_layout.specs.declared.shape.NodeShape.{NodeShape}
use Rattle.sg_layout.specs.Axes.{count_of, size_of}
use Rattle.sg_pool.specs.Numbers.{is_live_number}
use Rattle.sg_pool.proofs.Uses.{live_is_number}
use Rattle.sg_store.specs.declared.node.NodeWords.{NodeWords}
use Rattle.sg_store.specs.Slots.{slot_under, place_below}
use Rattle.sg_store.specs.Walks.{slot_number_in}
use Rattle.sg_store.specs.WellFormed.{IsPointerNode, IsNode, by_slots, places_below, live_below, live_slot, AreNodes}
use Rattle.sg_store.specs.steps.AtNode.{AtNode}
use Rattle.sg_store.specs.steps.Walking.{AreOffsets}
use Rattle.sg_store.proofs.BySlots.{hash_leads}
use Rattle.sg_store.proofs.Walking.{linked_is, linked_some, index_contains}

-- the slot with this number is there, and in a live container
pub record InLive (q : ℕ) (node : NodeShape) (kept : NodeWords) (slots : ℕ) (live : ℕ → Bool) : Type 0 where
  pub within : q < slots
  pub is_live : live q ≡ true

-- ── From slots to numbers ──

pointer_leads_live : (node : NodeShape) (kept : NodeWords) (slots : ℕ) (live : ℕ → Bool) → IsPointerNode node kept slots live → (q n : ℕ) → place_below Pointer node kept q ≡ Some n → (n < count_of node.cap + 17) × (is_live_number kept.pool n ≡ true)
pointer_leads_live node kept slots live is q n e =
    let alive : is_live_number kept.pool n ≡ true = (is.live_linked n).1 (index_contains kept.links q n (linked_is (slice_index kept.links q) n e)) in
    (omega (arith, live_is_number kept.pool n alive, is.places), alive)

pointer_parent : (node : NodeShape) (kept : NodeWords) (slots : ℕ) (live : ℕ → Bool) → IsPointerNode node kept slots live → (n : ℕ) → is_live_number kept.pool n ≡ true → (q : ℕ) × (q < slots) × (live q ≡ true) × (place_below Pointer node kept q ≡ Some n)
pointer_parent node kept slots live is n on =
    let found = (is.live_linked n).0 on in
    let q : ℕ = found.0 in
    let word : slice_index kept.links q ≡ suc n = get_or_default kept.links q 0 (suc n) found.1 ∙ found.2 in
    (q, omega (arith, found.1, is.link_count), is.in_live q (λ none. cc), linked_some (slice_index kept.links q) n word)

-- where a slot in a live container leads is live
pub leads_live : (kind : Kind) (node : NodeShape) (kept : NodeWords) (slots : ℕ) (live : ℕ → Bool) → kind ≢ Dynamic → IsNode kind node kept slots live → (q n : ℕ) → q < slots → live q ≡ true → place_below kind node kept q ≡ Some n → (n < places_below kind node slots) × (live_below kind kept live n ≡ true)
leads_live Dense node kept slots live other is q n below on e = let same : q ≡ n = same_Some q n e in (omega arith, sym (ap live same) ∙ on)
leads_live Bitmasked node kept slots live other is q n below on e = let same : q ≡ n = same_Some q n e in (omega arith, sym (ap live same) ∙ on)
leads_live Pointer node kept slots live other is q n below on e = pointer_leads_live node kept slots live is q n e
leads_live Hash node kept slots live other is q n below on e =
    pointer_leads_live node (by_slots kept slots) slots live is.as_pointer q n (sym (hash_leads node kept slots live is q) ∙ e)
leads_live Dynamic node kept slots live other is q n below on e = absurd (other refl)

under_live : (node : NodeShape) (kept : NodeWords) (places : ℕ) (live : ℕ → Bool) (p o : ℕ) → p < places → live p ≡ true → o < size_of node.sizes → InLive (slot_under node p o) node kept (places * size_of node.sizes) (live_slot node live)
under_live node kept places live p o within on below = record {
  within = omega (arith, mul-add-lt p (size_of node.sizes) o places within below);
  is_live = ap live (div-mul-add p (size_of node.sizes) o below) ∙ on;
}

pub number_live : (nodes : List NodeShape) (words : List NodeWords) (places : ℕ) (live : ℕ → Bool) → AreNodes nodes words places live → (p : ℕ) → p < places → live p ≡ true → (s : List ℕ) → AreOffsets nodes s → (i : ℕ) → length s ≡ suc i → (q : ℕ) → slot_number_in nodes words p s ≡ Some q → AtNode (InLive q) nodes words places live i
number_live nodes words places live are p within on [] ins i long q e = absurd (none-some q e)
number_live [] words places live are p within on (o ∷ s) ins i long q e = absurd ins
number_live (node ∷ later) [] places live are p within on (o ∷ s) ins i long q e = absurd are
number_live (node ∷ later) (kept ∷ words) places live are p within on (o ∷ []) ins zero long q e =
    subst (λ n. InLive n node kept (places * size_of node.sizes) (live_slot node live)) (same_Some _ q e) (under_live node kept places live p o within on ins.0)
number_live (node ∷ later) (kept ∷ words) places live are p within on (o ∷ []) ins (suc i) long q e = absurd (omega (arith, long))
number_live (node ∷ later) (kept ∷ words) places live are p within on (o ∷ (v ∷ s)) ins zero long q e = absurd (omega (arith, long))
number_live (node ∷ later) (kept ∷ words) places live are p within on (o ∷ (v ∷ s)) ins (suc i) long q e =
    let here = under_live node kept places live p o within on ins.0 in
    option_and_then_some _ _ q e (λ n there rest.
    let other : node.kind ≢ Dynamic = λ dynamic. subst (λ nodes. AreOffsets nodes (v ∷ s)) (are.3 dynamic) ins.1 in
    let below = leads_live node.kind node kept _ _ other are.1 (slot_under node p o) n here.within here.is_live there in
    number_live later words _ _ are.2 n below.0 below.1 (v ∷ s) ins.1 i (omega (arith, long)) q rest)

-- ── From numbers to slots ──

-- a live place is one to which a slot in a live container leads
pub parent_of : (kind : Kind) (node : NodeShape) (kept : NodeWords) (slots : ℕ) (live : ℕ → Bool) → kind ≢ Dynamic → IsNode kind node kept slots live → (n : ℕ) → n < places_below kind node slots → live_below kind kept live n ≡ true → (q : ℕ) × (q < slots) × (live q ≡ true) × (place_below kind node kept q ≡ Some n)
parent_of Dense node kept slots live other is n below on = (n, below, on, refl)
parent_of Bitmasked node kept slots live other is n below on = (n, below, on, refl)
parent_of Pointer node kept slots live other is n below on = pointer_parent node kept slots live is n on
parent_of Hash node kept slots live other is n below on =
    let found = pointer_parent node (by_slots kept slots) slots live is.as_pointer n on in
    (found.0, found.1, found.2, hash_leads node kept slots live is found.0 ∙ found.3)
parent_of Dynamic node kept slots live other is n below on = absurd (other refl)

-- a slot from a live place, with this number at the node with this index
pub record LeadsTo (nodes : List NodeShape) (words : List NodeWords) (places : ℕ) (live : ℕ → Bool) (i q : ℕ) : Type 0 where
  pub start : ℕ
  pub within : start < places
  pub is_live : live start ≡ true
  pub slot : List ℕ
  pub are_offsets : AreOffsets nodes slot
  pub long : length slot ≡ suc i
  pub number : slot_number_in nodes words start slot ≡ Some q

-- a number of a slot of a node, as a place and an offset
split_slot : (node : NodeShape) (places q : ℕ) → q < places * size_of node.sizes → (q / size_of node.sizes < places) × (q % size_of node.sizes < size_of node.sizes) × (slot_under node (q / size_of node.sizes) (q % size_of node.sizes) ≡ q)
split_slot node places q below =
    let some : 0 < size_of node.sizes = pos_of_ne-zero (λ none. absurd (omega (arith, below, ap (λ n. places * n) none))) in (
      (div-lt_iff_lt-mul {x = q} {y = places} some).1 below,
      mod_below q (size_of node.sizes) some,
      div-add-mod' q (size_of node.sizes),
    )

-- one step up: a slot below a place to which a slot leads
step_up : (node : NodeShape) (kept : NodeWords) (later : List NodeShape) (words : List NodeWords) (p o n : ℕ) (v : List ℕ) (i q : ℕ) → length v ≡ suc i → place_below node.kind node kept (slot_under node p o) ≡ Some n → slot_number_in later words n v ≡ Some q → slot_number_in (node ∷ later) (kept ∷ words) p (o ∷ v) ≡ Some q
step_up node kept later words p o n [] i q long there e = absurd (omega (arith, long))
step_up node kept later words p o n (a ∷ v) i q long there e = ap (option_and_then (λ under. slot_number_in later words under (a ∷ v))) there ∙ e

-- below a last node there is none
last_has_none : (nodes : List NodeShape) (words : List NodeWords) (places : ℕ) (live : ℕ → Bool) (i q : ℕ) → nodes ≡ [] → AtNode (InLive q) nodes words places live i → ⊥
last_has_none [] words places live i q none here = here
last_has_none (node ∷ later) words places live i q none here = cc

pub leads_from : (nodes : List NodeShape) (words : List NodeWords) (places : ℕ) (live : ℕ → Bool) → AreNodes nodes words places live → (i q : ℕ) → AtNode (InLive q) nodes words places live i → LeadsTo nodes words places live i q
leads_from [] words places live are i q here = absurd here
leads_from (node ∷ later) [] places live are i q here = absurd here
leads_from (node ∷ later) (kept ∷ words) places live are zero q here =
    let parts = split_slot node places q here.within in
    record {
      start = q / size_of node.sizes;
      within = parts.0;
      is_live = here.is_live;
      slot = (q % size_of node.sizes) ∷ [];
      are_offsets = (parts.1, tt);
      long = refl;
      number = ap Some parts.2;
    }
leads_from (node ∷ later) (kept ∷ words) places live are (suc i) q here =
    let rest = leads_from later words _ _ are.2 i q here in
    let other : node.kind ≢ Dynamic = λ dynamic. last_has_none later words _ _ i q (are.3 dynamic) here in
    let up = parent_of node.kind node kept _ _ other are.1 rest.start rest.within rest.is_live in
    let above : ℕ = up.0 in
    let parts = split_slot node places above up.1 in
    record {
      start = above / size_of node.sizes;
      within = parts.0;
      is_live = up.2;
      slot = (above % size_of node.sizes) ∷ rest.slot;
      are_offsets = (parts.1, rest.are_offsets);
      long = ap suc rest.long;
      number = step_up node kept later words (above / size_of node.sizes) (above % size_of node.sizes) rest.start rest.slot i q rest.long
          (ap (place_below node.kind node kept) parts.2 ∙ up.3) rest.number;
    }
