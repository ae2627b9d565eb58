-- What a slot holds is live, in a live container, and what is live is held.
use Rattle.std.proofs.Common.{◌≡◌, ◌≢◌, ℕ, suc, ◌+◌, ◌-◌, ◌*◌, ◌/◌, ◌%◌, ◌<◌, ◌≤◌, Bool, List, [], ◌∷◌, length, sym, ap, ◌∙◌, subst, arith, inl, inr}
use Rattle.std.specs.Prelude.{Some, IsTrue, slice_get, slice_index, slice_index_or}
use Rattle.std.proofs.lemmas.Bool.{cases_eq, cases_Bool, false≢true, lt-ltb}
use Rattle.std.proofs.lemmas.Nat.{div-mul-add, mod-mul-add, div_below, div-add-mod', same_from_place}
use Rattle.std.proofs.lemmas.List.{get_or_default}
use Rattle.std.proofs.lemmas.List.Sums.{sum_by-cons}
use Rattle.std.proofs.lemmas.Option.{none-some, slice_get_within}
use Rattle.std.proofs.Math.Nat.{pos_of_ne-zero, le-div_iff_mul-le}
use Rattle.sg_layout.specs.declared.shape.Kind.{Kind}
use Rattle.sg_layout.specs.declared.shape.Kind.TheVariants.{Dense, Bitmasked, Pointer, Hash, Dynamic}
use Rattle.sg_layout.specs.declared.shape.NodeShape.{NodeShape}
use Rattle.sg_layout.specs.Axes.{count_of, size_of}
use Rattle.sg_links.specs.Lists.{list_of, times, times_in_lists}
use Rattle.sg_links.proofs.Uses.{there_is_list, stands, times_at, times_other, one_if}
use Rattle.sg_pool.specs.Numbers.{is_live_number}
use Rattle.sg_dynamic.specs.Chunks.{chunks_of}
use Rattle.sg_store.specs.declared.node.NodeWords.{NodeWords}
use Rattle.sg_store.specs.Slots.{below_length, linked}
use Rattle.sg_store.specs.WellFormed.{IsNode, IsPointerNode, IsDynamicNode, by_slots, kind_has_cap, live_slot}
use Rattle.sg_store.specs.Links.{held_at, slots_per_place, full_chain}
use Rattle.sg_store.proofs.Walking.{linked_is, linked_some, index_contains}
use Rattle.sg_store.proofs.Counting.{index_within}
use Rattle.sg_store.proofs.BySlots.{hash_leads}
use Rattle.sg_store.proofs.Opening.{no_chunks}
use Rattle.sg_store.proofs.HeldSlots.{HasChunks, chunk_sized, chain_some}

-- ── In a live container ──

-- where a slot that holds something stands: there are slots, it is one of them, and the place above it is live
pub record IsHeldIn (places : ℕ) (live : ℕ → Bool) (slot per_place : ℕ) : Type 0 where
  pub some : 1 ≤ per_place
  pub within : slot / per_place < places
  pub is_live : IsTrue (live (slot / per_place))

pointer_in : (node : NodeShape) (kept : NodeWords) (places : ℕ) (live : ℕ → Bool) → IsPointerNode node kept (places * size_of node.sizes) (live_slot node live) → (slot number : ℕ) → linked (slice_index kept.links slot) ≡ Some number → IsHeldIn places live slot (size_of node.sizes)
pointer_in node kept places live is slot number holds =
    let word : slice_index kept.links slot ≡ suc number = linked_is (slice_index kept.links slot) number holds in
    let some : slice_index kept.links slot ≢ 0 = λ none. absurd (let h : suc number ≡ 0 = sym word ∙ none in omega arith) in
    let below : slot < places * size_of node.sizes = omega (arith, index_within kept.links slot some, is.link_count) in
    let wide : 0 < size_of node.sizes = pos_of_ne-zero (λ none. absurd (omega (arith, below, ap (λ n. places * n) none))) in
    record { some = omega (arith, wide); within = div_below slot (size_of node.sizes) places wide below; is_live = is.in_live slot some }

chunk_in : (node : NodeShape) (kept : NodeWords) (places : ℕ) (live : ℕ → Bool) → IsDynamicNode node kept (places * size_of node.sizes) (live_slot node live) → (slot number : ℕ) → held_at Dynamic node kept slot ≡ Some number → IsHeldIn places live slot (full_chain node)
chunk_in node kept places live is slot number holds =
    let size : ℕ = size_of node.sizes in
    let chunk : ℕ = count_of node.chunk in
    let parent : ℕ = slot / full_chain node in
    let chain : List ℕ = list_of kept.chains parent in
    let has : HasChunks node = chunk_sized node kept (places * size) (live_slot node live) is slot number holds in
    let there : parent < length kept.lengths = omega (arith, there_is_list kept.chains number parent (slot % full_chain node) holds, is.chain_count) in
    let inside : slot % full_chain node < length chain = slice_get_within chain (slot % full_chain node) number holds in
    let fits : length chain ≡ chunks_of chunk (slice_index kept.lengths parent) = is.chains_fit parent there in
    let long : 0 < slice_index kept.lengths parent = pos_of_ne-zero (λ none. absurd (omega (arith, inside, fits, ap (chunks_of chunk) none, no_chunks chunk has.some_chunk))) in
    let up : (parent * size + 0) / size ≡ parent = div-mul-add parent size 0 has.sized in
    let along : (parent * size + 0) % size ≡ 0 = mod-mul-add parent size 0 has.sized in
    let below : IsTrue (below_length kept.lengths size (parent * size + 0)) =
    lt-ltb ((parent * size + 0) % size) (slice_index kept.lengths ((parent * size + 0) / size)) (omega (arith, along, long, ap (slice_index kept.lengths) up)) in
    record {
      some = chain_some size chunk has.sized has.some_chunk;
      within = same_factor parent places size (omega (arith, there)) (omega (arith, is.length_count, parents_fit (length kept.lengths) places size has.sized is.length_count));
      is_live = subst (λ p. IsTrue (live p)) up (is.in_live (parent * size + 0) below);
    }
  where
    parents_fit : (lengths places size : ℕ) → 0 < size → lengths * size ≡ places * size → lengths ≡ places
    parents_fit lengths places size some same = (same_from_place lengths 0 places 0 size some some (omega (arith, same))).0

    same_factor : (parent places size : ℕ) → parent < length kept.lengths → length kept.lengths ≡ places → parent < places
    same_factor parent places size below same = omega (arith, below, same)

pub held_in : (kind : Kind) (node : NodeShape) (kept : NodeWords) (places : ℕ) (live : ℕ → Bool) → IsNode kind node kept (places * size_of node.sizes) (live_slot node live) → (slot number : ℕ) → held_at kind node kept slot ≡ Some number → IsHeldIn places live slot (slots_per_place kind node)
held_in Dense node kept places live is slot number holds = absurd (none-some number holds)
held_in Bitmasked node kept places live is slot number holds = absurd (none-some number holds)
held_in Pointer node kept places live is slot number holds = pointer_in node kept places live is slot number holds
held_in Hash node kept places live is slot number holds =
    pointer_in node (by_slots kept (places * size_of node.sizes)) places live is.as_pointer slot number
    (sym (hash_leads node kept (places * size_of node.sizes) (live_slot node live) is slot) ∙ holds)
held_in Dynamic node kept places live is slot number holds = chunk_in node kept places live is slot number holds

-- ── What is held is live ──

pointer_live : (node : NodeShape) (kept : NodeWords) (slots : ℕ) (live : ℕ → Bool) → IsPointerNode node kept slots live → (slot number : ℕ) → linked (slice_index kept.links slot) ≡ Some number → IsTrue (is_live_number kept.pool number)
pointer_live node kept slots live is slot number holds =
    (is.live_linked number).1 (index_contains kept.links slot number (linked_is (slice_index kept.links slot) number holds))

chunk_live : (node : NodeShape) (kept : NodeWords) (slots : ℕ) (live : ℕ → Bool) → IsDynamicNode node kept slots live → (slot number : ℕ) → held_at Dynamic node kept slot ≡ Some number → IsTrue (is_live_number kept.pool number)
chunk_live node kept slots live is slot number holds =
    let head : ℕ = slot / full_chain node in
    let there = there_is_list kept.chains number head (slot % full_chain node) holds in
    let stood : 0 < times_in_lists number kept.chains.lists =
    omega (arith, stands (list_of kept.chains head) (slot % full_chain node) number holds, times_at number kept.chains.lists head there) in
    elim (cases_Bool (is_live_number kept.pool number)) [
      | inl live ↦ live
      | inr dead ↦ absurd (omega (arith, stood, is.exact.live number, ap one_if dead))
    ]

pub held_is_live : (kind : Kind) (node : NodeShape) (kept : NodeWords) (slots : ℕ) (live : ℕ → Bool) → IsNode kind node kept slots live → (slot number : ℕ) → held_at kind node kept slot ≡ Some number → IsTrue (is_live_number kept.pool number)
held_is_live Dense node kept slots live is slot number holds = absurd (none-some number holds)
held_is_live Bitmasked node kept slots live is slot number holds = absurd (none-some number holds)
held_is_live Pointer node kept slots live is slot number holds = pointer_live node kept slots live is slot number holds
held_is_live Hash node kept slots live is slot number holds =
    pointer_live node (by_slots kept slots) slots live is.as_pointer slot number (sym (hash_leads node kept slots live is slot) ∙ holds)
held_is_live Dynamic node kept slots live is slot number holds = chunk_live node kept slots live is slot number holds

-- ── What is live is held ──

abbrev HoldsIt : Kind → NodeShape → NodeWords → ℕ → Type 0
HoldsIt kind node kept number = (slot : ℕ) × (held_at kind node kept slot ≡ Some number)

pointer_held : (node : NodeShape) (kept : NodeWords) (slots : ℕ) (live : ℕ → Bool) → IsPointerNode node kept slots live → (number : ℕ) → IsTrue (is_live_number kept.pool number) → HoldsIt Pointer node kept number
pointer_held node kept slots live is number on =
    let has = (is.live_linked number).0 on in
    (has.0, linked_some (slice_index kept.links has.0) number (get_or_default kept.links has.0 0 (suc number) has.1 ∙ has.2))

-- a number that stands in a list stands at a place of it
place_of_one : (x : ℕ) (list : List ℕ) → 0 < times x list → (place : ℕ) × (slice_get list place ≡ Some x)
place_of_one x [] some = absurd (omega (arith, some))
place_of_one x (y ∷ ys) some = elim (cases_eq y x) [
  | inl same ↦ (0, ap (λ k. Some k) same)
  | inr other ↦ let rest = place_of_one x ys (omega (arith, some, times_other x y ys other)) in (suc rest.0, rest.1)
]

list_of_one : (x : ℕ) (lists : List (List ℕ)) → 0 < times_in_lists x lists → (head : ℕ) × (place : ℕ) × (slice_get (slice_index_or lists head []) place ≡ Some x)
list_of_one x [] some = absurd (omega (arith, some))
list_of_one x (list ∷ lists) some = elim (cases_eq (times x list) 0) [
  | inl none ↦
      let rest = list_of_one x lists (omega (arith, some, none, sum_by-cons {X = List ℕ} (times x) list lists)) in
      (suc rest.0, rest.1, rest.2)
  | inr here ↦ let place = place_of_one x list (pos_of_ne-zero here) in (0, place.0, place.1)
]

-- a chain is no longer than a full one
pub chunks_rise : (chunk few more : ℕ) → 1 ≤ chunk → few ≤ more → chunks_of chunk few ≤ chunks_of chunk more
chunks_rise chunk few more some less =
    let whole : ℕ = few + (chunk - 1) in
    let parts : whole / chunk * chunk + whole % chunk ≡ whole = div-add-mod' whole chunk in
    (le-div_iff_mul-le some).1 (omega (arith, parts, less))

chunk_held : (node : NodeShape) (kept : NodeWords) (slots : ℕ) (live : ℕ → Bool) → IsDynamicNode node kept slots live → (number : ℕ) → IsTrue (is_live_number kept.pool number) → HoldsIt Dynamic node kept number
chunk_held node kept slots live is number on =
    let full : ℕ = full_chain node in
    let one : times_in_lists number kept.chains.lists ≡ 1 = is.exact.live number ∙ ap one_if on in
    let found = list_of_one number kept.chains.lists (omega (arith, one)) in
    let head : ℕ = found.0 in
    let place : ℕ = found.1 in
    let there : head < length kept.lengths = omega (arith, there_is_list kept.chains number head place found.2, is.chain_count) in
    let inside : place < length (list_of kept.chains head) = slice_get_within (list_of kept.chains head) place number found.2 in
    let short : chunks_of (count_of node.chunk) (slice_index kept.lengths head) ≤ full =
    chunks_rise (count_of node.chunk) (slice_index kept.lengths head) (size_of node.sizes) is.some_chunk (is.short head) in
    let below : place < full = omega (arith, inside, is.chains_fit head there, short) in
    let up : (head * full + place) / full ≡ head = div-mul-add head full place below in
    let along : (head * full + place) % full ≡ place = mod-mul-add head full place below in
    (head * full + place, ap (λ h. slice_get (list_of kept.chains h) ((head * full + place) % full)) up ∙ ap (slice_get (list_of kept.chains head)) along ∙ found.2)

pub live_is_held : (kind : Kind) (node : NodeShape) (kept : NodeWords) (slots : ℕ) (live : ℕ → Bool) → IsNode kind node kept slots live → IsTrue (kind_has_cap kind) → (number : ℕ) → IsTrue (is_live_number kept.pool number) → (slot : ℕ) × (held_at kind node kept slot ≡ Some number)
live_is_held Dense node kept slots live is capped number on = absurd (false≢true capped)
live_is_held Bitmasked node kept slots live is capped number on = absurd (false≢true capped)
live_is_held Pointer node kept slots live is capped number on = pointer_held node kept slots live is number on
live_is_held Hash node kept slots live is capped number on =
    let found = pointer_held node (by_slots kept slots) slots live is.as_pointer number on in
    (found.0, hash_leads node kept slots live is found.0 ∙ found.1)
live_is_held Dynamic node kept slots live is capped number on = chunk_held node kept slots live is number on
