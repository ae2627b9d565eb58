-- What the listing of a node's links has counted, and the link of the next number.
use Rattle.std.proofs.Common.{◌≡◌, ◌≢◌, ℕ, zero, suc, ◌+◌, ◌-◌, ◌*◌, ◌/◌, ◌%◌, ◌^◌, ◌<◌, ◌≤◌, Bool, true, false, cond, List, [], ◌∷◌, ◌++◌, length, get_or, refl, sym, ap, ◌∙◌, subst, arith}
use Rattle.std.specs.Prelude.{Option, Some, None, IsTrue, is_some, slice_get, slice_index}
use Rattle.std.proofs.lemmas.Bool.{false≢true}
use Rattle.std.proofs.lemmas.Nat.{div-add-mod', mod_below}
use Rattle.std.proofs.lemmas.Option.{none-some, same_Some, slice_get_within}
use Rattle.std.proofs.Math.Nat.{mul-le-mul_left, le-div_iff_mul-le}
use Rattle.sg_layout.specs.declared.shape.Kind.{Kind}
use Rattle.sg_layout.specs.declared.shape.Kind.TheVariants.{Dense, Bitmasked, Pointer, Hash, Dynamic}
use Rattle.sg_layout.specs.declared.shape.NodeShape.{NodeShape}
use Rattle.sg_layout.specs.Axes.{count_of, size_of}
use Rattle.sg_layout.specs.Live.{kind_or, kind_at}
use Rattle.sg_layout.specs.RuleLaws.{AcceptedKeepsRules}
use Rattle.sg_layout.specs.StorageWords.{ends_segment}
use Rattle.sg_pool.specs.Numbers.{place_count, is_live_number}
use Rattle.sg_pool.proofs.Uses.{live_is_number}
use Rattle.sg_dynamic.specs.Chunks.{chunks_of}
use Rattle.sg_store.specs.declared.frame.NodeWidths.{NodeWidths}
use Rattle.sg_store.specs.declared.node.NodeWords.{NodeWords}
use Rattle.sg_store.specs.declared.links.LinkAt.{LinkAt}
use Rattle.sg_store.specs.StoreWords.{StoreWords}
use Rattle.sg_store.specs.WellFormed.{IsNode, AreNodes, IsWellFormed, is_root, kind_has_cap, live_slot}
use Rattle.sg_store.specs.Spots.{width_after}
use Rattle.sg_store.specs.Links.{IsLink, full_chain, slots_per_place, node_above, copy_slots, link_for}
use Rattle.sg_store.specs.LinkLaws.{AreSound}
use Rattle.sg_store.specs.steps.Fresh.{IsCapped}
use Rattle.sg_store.specs.steps.Noting.{IsSomeNode, HasSlots, LinksBelow}
use Rattle.sg_store.specs.steps.Widths.{IsWidths}
use Rattle.sg_store.proofs.AtNumber.{at_number}
use Rattle.sg_store.proofs.Beginning.{capped}
use Rattle.sg_store.proofs.LinksListed.{below_more}
use Rattle.sg_store.proofs.LinksSound.{CopyHolds, copy_of_link, link_there}
use Rattle.sg_store.proofs.Stepping.{size_at, read_as}
use Rattle.sg_store.proofs.Walking.{node_is}

-- a node with a cap, from 0, whose links are listed: its shape, its words and its widths
pub record IsListed (store : StoreWords) (index : ℕ) (node : NodeShape) (kept : NodeWords) (widths : NodeWidths) : Type 0 where
  pub well : IsWellFormed store
  pub at : slice_get store.shape.nodes index ≡ Some node
  pub has : slice_get store.nodes index ≡ Some kept
  pub capped : IsTrue (kind_has_cap node.kind)
  pub is : IsWidths store.shape.nodes index widths

-- ── What is there ──

not_dense : (kind : Kind) → kind_has_cap kind ≡ true → kind ≢ Dense
not_dense kind is dense = false≢true (ap kind_has_cap (sym dense) ∙ is)

-- the node with this number is there, and so are its words
pub capped_there : (store : StoreWords) → IsWellFormed store → (number : ℕ) → 1 ≤ number → kind_has_cap (kind_at store.shape.nodes number) ≡ true → (node : NodeShape) × (kept : NodeWords) × (slice_get store.shape.nodes (number - 1) ≡ Some node) × (slice_get store.nodes (number - 1) ≡ Some kept) × IsTrue (kind_has_cap node.kind)
capped_there store well number first is =
    let found = at_number store well number first (not_dense (kind_at store.shape.nodes number) is) in
    (found.0, found.1, found.2.at, found.2.has, ap kind_has_cap (sym found.3) ∙ is)

-- so that both lists that the code reads have an item there
pub node_inside : (store : StoreWords) → IsWellFormed store → (number : ℕ) → 1 ≤ number → kind_has_cap (kind_at store.shape.nodes number) ≡ true → number - 1 < length store.shape.nodes
node_inside store well number first is =
    let found = capped_there store well number first is in
    slice_get_within store.shape.nodes (number - 1) found.0 found.2

pub words_inside : (store : StoreWords) → IsWellFormed store → (number : ℕ) → 1 ≤ number → kind_has_cap (kind_at store.shape.nodes number) ≡ true → number - 1 < length store.nodes
words_inside store well number first is =
    let found = capped_there store well number first is in
    slice_get_within store.nodes (number - 1) found.1 found.3

-- what the code reads is the node and its words
pub listing_of : (store : StoreWords) → IsWellFormed store → (number : ℕ) → 1 ≤ number → kind_has_cap (kind_at store.shape.nodes number) ≡ true → (shapes : List NodeShape) (words : List NodeWords) → shapes ≡ store.shape.nodes → words ≡ store.nodes
    → (node : NodeShape) (kept : NodeWords) (widths : NodeWidths) → node ≡ get_or shapes (number - 1) node → kept ≡ get_or words (number - 1) kept → IsWidths store.shape.nodes (number - 1) widths
    → IsListed store (number - 1) node kept widths
listing_of store well number first is shapes words shapes_are words_are node kept widths node_is kept_is widths_are =
    let found = capped_there store well number first is in
    let node_here : node ≡ found.0 = read_as shapes store.shape.nodes (number - 1) node found.0 shapes_are node_is found.2 in
    let kept_here : kept ≡ found.1 = read_as words store.nodes (number - 1) kept found.1 words_are kept_is found.3 in
    record {
      well = well;
      at = found.2 ∙ ap (λ n. Some n) (sym node_here);
      has = found.3 ∙ ap (λ k. Some k) (sym kept_here);
      capped = subst (λ (n : NodeShape). IsTrue (kind_has_cap n.kind)) (sym node_here) found.4;
      is = widths_are;
    }

pub size_here : (store : StoreWords) (index : ℕ) (node : NodeShape) (kept : NodeWords) (widths : NodeWidths) → IsListed store index node kept widths → widths.size ≡ size_of node.sizes
size_here store index node kept widths listed = listed.is.size_is ∙ size_at store.shape.nodes index node listed.at

pub some_node : (store : StoreWords) (index : ℕ) (node : NodeShape) (kept : NodeWords) (widths : NodeWidths) → IsListed store index node kept widths → IsSomeNode node kept
some_node store index node kept widths listed = node_is store.shape.nodes store.nodes 1 is_root listed.well.nodes_fit index node kept listed.at listed.has

-- ── Room ──

-- a full chain has no more chunks than the parent has elements
full_few : (chunk size : ℕ) → 1 ≤ chunk → chunks_of chunk size ≤ size
full_few chunk zero some =
    let none : chunks_of chunk 0 * chunk ≤ 0 + (chunk - 1) = (le-div_iff_mul-le some).0 (omega arith) in
    no_more (chunks_of chunk 0) chunk some none
  where
    no_more : (count chunk : ℕ) → 1 ≤ chunk → count * chunk ≤ 0 + (chunk - 1) → count ≤ 0
    no_more zero chunk some few = omega arith
    no_more (suc count) chunk some few = absurd (omega (arith, few, some))
full_few chunk (suc size) some =
    let most : chunks_of chunk (suc size) * chunk ≤ suc size + (chunk - 1) = (le-div_iff_mul-le some).0 (omega arith) in
    fewer (chunks_of chunk (suc size)) chunk size some most
  where
    fewer : (count chunk size : ℕ) → 1 ≤ chunk → count * chunk ≤ suc size + (chunk - 1) → count ≤ suc size
    fewer zero chunk size some few = omega arith
    fewer (suc count) zero size some few = absurd (omega (arith, some))
    fewer (suc count) (suc chunk) size some few =
        let split : suc count * suc chunk ≡ count * suc chunk + suc chunk = omega arith in
        let more : count * 1 ≤ count * suc chunk = mul-le-mul_left count (omega arith) in
        omega (arith, few, split, more)

per_place_few : (kind : Kind) (node : NodeShape) (kept : NodeWords) (slots : ℕ) (live : ℕ → Bool) → IsNode kind node kept slots live → slots_per_place kind node ≤ size_of node.sizes
per_place_few Dense node kept slots live is = omega arith
per_place_few Bitmasked node kept slots live is = omega arith
per_place_few Pointer node kept slots live is = omega arith
per_place_few Hash node kept slots live is = omega arith
per_place_few Dynamic node kept slots live is = full_few (count_of node.chunk) (size_of node.sizes) is.some_chunk

-- the slots of one copy
pub copy_few : (store : StoreWords) (index : ℕ) (node : NodeShape) (kept : NodeWords) (widths : NodeWidths) → IsListed store index node kept widths → widths.before * slots_per_place node.kind node ≤ 2 ^ 30
copy_few store index node kept widths listed =
    let own = some_node store index node kept widths listed in
    let few : slots_per_place node.kind node ≤ size_of node.sizes = per_place_few node.kind node kept own.0 own.1 own.2 in
    let grown : widths.before * slots_per_place node.kind node ≤ widths.before * size_of node.sizes = mul-le-mul_left widths.before few in
    let same : widths.before * size_of node.sizes ≡ widths.before * widths.size = ap (λ n. widths.before * n) (sym (size_here store index node kept widths listed)) in
    omega (arith, grown, same, listed.is.room)

-- the slots of all places above a node
slots_few : (nodes : List NodeShape) (words : List NodeWords) (places : ℕ) (live : ℕ → Bool) → AreNodes nodes words places live → (i : ℕ) (node : NodeShape) (kept : NodeWords) → slice_get nodes i ≡ Some node → slice_get words i ≡ Some kept
    → (slots : ℕ) × (own : ℕ → Bool) × IsNode node.kind node kept slots own × (slots ≤ 2 ^ 47)
slots_few [] words places live are i node kept at has = absurd (none-some node at)
slots_few (first ∷ later) [] places live are i node kept at has = absurd (none-some kept has)
slots_few (first ∷ later) (own ∷ words) places live are zero node kept at has =
    let n : ℕ = places * size_of first.sizes in (
      n,
      live_slot first live,
      subst (λ (f : NodeShape). IsNode f.kind f kept n (live_slot first live)) (same_Some first node at)
          (subst (λ (k : NodeWords). IsNode first.kind first k n (live_slot first live)) (same_Some own kept has) are.1),
      are.0,
    )
slots_few (first ∷ later) (own ∷ words) places live are (suc i) node kept at has = slots_few later words _ _ are.2 i node kept at has

chains_few : (node : NodeShape) (kept : NodeWords) (kind : Kind) (slots : ℕ) (live : ℕ → Bool) → kind ≡ Dynamic → IsNode kind node kept slots live → slots ≤ 2 ^ 47 → length kept.chains.lists * full_chain node ≤ 2 ^ 47
chains_few node kept kind slots live dynamic own few =
    let is = subst (λ k. IsNode k node kept slots live) dynamic own in
    let less : length kept.chains.lists * full_chain node ≤ length kept.chains.lists * size_of node.sizes =
    mul-le-mul_left (length kept.chains.lists) (full_few (count_of node.chunk) (size_of node.sizes) is.some_chunk) in
    let same : length kept.chains.lists * size_of node.sizes ≡ length kept.lengths * size_of node.sizes = ap (λ n. n * size_of node.sizes) is.chain_count in
    omega (arith, less, same, is.length_count, few)

pub chains_have_room : (store : StoreWords) (index : ℕ) (node : NodeShape) (kept : NodeWords) (widths : NodeWidths) → IsListed store index node kept widths → node.kind ≡ Dynamic → length kept.chains.lists * full_chain node ≤ 2 ^ 47
chains_have_room store index node kept widths listed dynamic =
    let own = slots_few store.shape.nodes store.nodes 1 is_root listed.well.nodes_fit index node kept listed.at listed.has in
    chains_few node kept node.kind own.0 own.1 dynamic own.2 own.3

-- ── The copy of a slot ──

-- the node above has child containers
above_ends : (nodes : List NodeShape) (index above : ℕ) → node_above nodes index ≡ Some above → ends_segment (kind_or (slice_get nodes above)) ≡ true
above_ends nodes zero above is = absurd (none-some above is)
above_ends nodes (suc index) above is = split (ends_segment (kind_or (slice_get nodes index))) refl (above_ends nodes index above) is
  where
    split : (b : Bool) → ends_segment (kind_or (slice_get nodes index)) ≡ b → (node_above nodes index ≡ Some above → ends_segment (kind_or (slice_get nodes above)) ≡ true) → cond b (Some index) (node_above nodes index) ≡ Some above → ends_segment (kind_or (slice_get nodes above)) ≡ true
    split true ends before here = subst (λ n. ends_segment (kind_or (slice_get nodes n)) ≡ true) (same_Some index above here) ends
    split false ends before here = before here

kind_there : (nodes : List NodeShape) (i : ℕ) → ends_segment (kind_or (slice_get nodes i)) ≡ true → (node : NodeShape) × (slice_get nodes i ≡ Some node)
kind_there [] i ends = absurd (false≢true ends)
kind_there (node ∷ later) zero ends = (node, refl)
kind_there (node ∷ later) (suc i) ends = kind_there later i ends

-- such a node has few numbers
pool_few : (kind : Kind) (node : NodeShape) (kept : NodeWords) (slots : ℕ) (live : ℕ → Bool) → IsNode kind node kept slots live → ends_segment kind ≡ true → IsCapped kind node → place_count kept.pool ≤ 2 ^ 17
pool_few Dense node kept slots live is ends caps = absurd (false≢true ends)
pool_few Bitmasked node kept slots live is ends caps = absurd (false≢true ends)
pool_few Pointer node kept slots live is ends caps = omega (arith, is.places, caps.1)
pool_few Hash node kept slots live is ends caps = omega (arith, is.as_pointer.places, caps.1)
pool_few Dynamic node kept slots live is ends caps = absurd (false≢true ends)

pub copies_few : (store : StoreWords) (index : ℕ) → IsWellFormed store → AcceptedKeepsRules store.shape → (above : Option ℕ) → node_above store.shape.nodes index ≡ above → (copy : ℕ) → CopyHolds (λ c. c ≡ 0) store.nodes above copy → copy + 1 < 2 ^ 32
copies_few store index well rules None none copy holds = omega (arith, holds)
copies_few store index well rules (Some above) there copy holds =
    let ends : ends_segment (kind_or (slice_get store.shape.nodes above)) ≡ true = above_ends store.shape.nodes index above there in
    let node = kind_there store.shape.nodes above ends in
    let own = node_is store.shape.nodes store.nodes 1 is_root well.nodes_fit above node.0 holds.0 node.1 holds.1 in
    let caps : IsCapped node.0.kind node.0 = capped node.0.kind node.0 ((rules.0 well.accepted.keeps_rules).0 above node.0 node.1).caps in
    let few : place_count holds.0.pool ≤ 2 ^ 17 =
    pool_few node.0.kind node.0 holds.0 own.0 own.1 own.2 (sym (ap (λ o. ends_segment (kind_or o)) node.1) ∙ ends) caps in
    omega (arith, live_is_number holds.0.pool copy holds.2, few)

-- the copy of a slot of the first segment is the only one
root_slot : (words : List NodeWords) (above : Option ℕ) (slot copy : ℕ) → 1 ≤ copy → CopyHolds (λ c. c ≡ 0) words above (slot / copy) → is_some above ≡ false → slot < copy
root_slot words None slot copy some holds none =
    let whole : slot / copy * copy + slot % copy ≡ slot = div-add-mod' slot copy in
    let first : slot / copy * copy ≡ 0 * copy = ap (λ n. n * copy) holds in
    let zero : 0 * copy ≡ 0 = omega arith in
    omega (arith, whole, first, zero, mod_below slot copy some)
root_slot words (Some above) slot copy some holds none = absurd (false≢true (sym none))

-- ── The link of a live number ──

-- what stands beside the number is its slot, and the copy of the slot is as the link's parts need it
pub record IsNext (store : StoreWords) (index : ℕ) (node : NodeShape) (slots : List ℕ) (number : ℕ) : Type 0 where
  pub link : LinkAt
  pub is_link : IsLink store index link
  pub numbered : link.number ≡ number
  pub is : link ≡ link_for store.shape.nodes index node (slice_index slots number) number
  pub some : 1 ≤ copy_slots store.shape.nodes index node
  pub few : slice_index slots number / copy_slots store.shape.nodes index node + 1 < 2 ^ 32
  pub root : is_some (node_above store.shape.nodes index) ≡ false → slice_index slots number < copy_slots store.shape.nodes index node

pub next_link : (store : StoreWords) (index : ℕ) (node : NodeShape) (kept : NodeWords) (widths : NodeWidths) (slots : List ℕ) (number : ℕ) → IsListed store index node kept widths → AcceptedKeepsRules store.shape → HasSlots node kept slots → is_live_number kept.pool number ≡ true → IsNext store index node slots number
next_link store index node kept widths slots number listed rules has live =
    let nodes : List NodeShape = store.shape.nodes in
    let found = link_there store index listed.well node listed.at listed.capped number (record { kept = kept; there = listed.has; live = live }) in
    let link : LinkAt = found.0 in
    let node_is : found.1.node ≡ node = same_Some found.1.node node (sym found.1.node_there ∙ listed.at) in
    let kept_is : found.1.kept ≡ kept = same_Some found.1.kept kept (sym found.1.kept_there ∙ listed.has) in
    let slots_of : HasSlots found.1.node found.1.kept slots =
    subst (λ (n : NodeShape). HasSlots n found.1.kept slots) (sym node_is) (subst (λ (k : NodeWords). HasSlots node k slots) (sym kept_is) has) in
    let own : slice_index slots link.number ≡ found.1.slot = slots_of.held found.1.slot link.number found.1.holds in
    let slot_is : found.1.slot ≡ slice_index slots number = sym own ∙ ap (slice_index slots) found.2 in
    let copy = copy_of_link store index link listed.well found.1 in
    let some : 1 ≤ copy_slots nodes index node = subst (λ (n : NodeShape). 1 ≤ copy_slots nodes index n) node_is copy.0 in
    let holds : CopyHolds (λ c. c ≡ 0) store.nodes (node_above nodes index) (slice_index slots number / copy_slots nodes index node) =
    subst (λ (n : NodeShape). CopyHolds (λ c. c ≡ 0) store.nodes (node_above nodes index) (slice_index slots number / copy_slots nodes index n)) node_is
    (subst (λ s. CopyHolds (λ c. c ≡ 0) store.nodes (node_above nodes index) (s / copy_slots nodes index found.1.node)) slot_is copy.1) in
    record {
      link = link;
      is_link = found.1;
      numbered = found.2;
      is = found.1.is
          ∙ ap (λ (n : NodeShape). link_for nodes index n found.1.slot link.number) node_is
          ∙ ap (λ s. link_for nodes index node s link.number) slot_is
          ∙ ap (λ n. link_for nodes index node (slice_index slots number) n) found.2;
      some = some;
      few = copies_few store index listed.well rules (node_above nodes index) refl (slice_index slots number / copy_slots nodes index node) holds;
      root = root_slot store.nodes (node_above nodes index) (slice_index slots number) (copy_slots nodes index node) some holds;
    }

-- ── The next number ──

-- the width of the code is that of the definition
pub copy_is : (store : StoreWords) (index : ℕ) (node : NodeShape) (kept : NodeWords) (widths : NodeWidths) (per_place : ℕ) → IsListed store index node kept widths → per_place ≡ slots_per_place node.kind node → widths.before * per_place ≡ copy_slots store.shape.nodes index node
copy_is store index node kept widths per_place listed is = ap (λ w. w * per_place) listed.is.before_is ∙ ap (λ n. width_after store.shape.nodes index * n) is

-- the link that is pushed
pub pushed : (store : StoreWords) (index : ℕ) (node : NodeShape) (slots : List ℕ) (links : List LinkAt) (number slot copy : ℕ) (above : Bool) (link : LinkAt) → AreSound store index → IsNext store index node slots number
    → above ≡ is_some (node_above store.shape.nodes index) → copy ≡ copy_slots store.shape.nodes index node → slot ≡ slice_index slots number
    → (let own : LinkAt = record { number = number; parent = cond above (slot / copy + 1) 0; slot = cond above (slot % copy) slot } in link ≡ own)
    → LinksBelow store index number links → LinksBelow store index (number + 1) (links ++ link ∷ [])
pushed store index node slots links number slot copy above link sound next above_is copy_is slot_is is so_far =
    let make : Bool → ℕ → ℕ → LinkAt = λ a c s. record { number = number; parent = cond a (s / c + 1) 0; slot = cond a (s % c) s } in
    let same : link ≡ next.link =
    is ∙ ap (λ a. make a copy slot) above_is
    ∙ ap (λ c. make (is_some (node_above store.shape.nodes index)) c slot) copy_is
    ∙ ap (λ s. make (is_some (node_above store.shape.nodes index)) (copy_slots store.shape.nodes index node) s) slot_is
    ∙ sym next.is in
    subst (λ (l : LinkAt). LinksBelow store index (number + 1) (links ++ l ∷ [])) (sym same)
    (below_more store index number links next.link sound next.is_link next.numbered so_far)
