-- The numbers that slots hold, by where the slots lead: so slots that lead as before hold the same numbers, and no number
-- stands in two slots.
use Rattle.std.proofs.Common.{◌≡◌, ℕ, ◌+◌, ◌-◌, ◌*◌, ◌/◌, ◌%◌, ◌<◌, ◌≤◌, Bool, List, length, sym, ap, ◌∙◌, arith, add-one}
use Rattle.std.specs.Prelude.{Option, Some, None, slice_get, slice_index}
use Rattle.std.specs.Option.{option_map}
use Rattle.std.proofs.lemmas.Nat.{div-mul-add, mod-mul-add, same_from_place, mod_below, div-add-mod'}
use Rattle.std.proofs.lemmas.Option.{none-some, same_Some, slice_get_within}
use Rattle.std.proofs.Math.Nat.{le-div_iff_mul-le, pos_of_ne-zero, suc-mul}
use Rattle.sg_layout.specs.declared.shape.Kind.{Kind}
use Rattle.sg_layout.specs.declared.shape.Kind.TheVariants.{Dense, Bitmasked, Pointer, Hash, Dynamic}
use Rattle.sg_layout.specs.declared.shape.NodeShape.{NodeShape}
use Rattle.sg_layout.specs.Axes.{count_of, size_of}
use Rattle.sg_links.specs.Lists.{list_of}
use Rattle.sg_links.proofs.Uses.{there_is_list}
use Rattle.sg_dynamic.specs.Chunks.{chunks_of}
use Rattle.sg_store.specs.declared.node.NodeWords.{NodeWords}
use Rattle.sg_store.specs.Slots.{place_below, chunk_cell}
use Rattle.sg_store.specs.WellFormed.{IsNode, IsDynamicNode}
use Rattle.sg_store.specs.Links.{full_chain, held_at}
use Rattle.sg_store.proofs.Opening.{no_chunks}

-- ── Chunks ──

-- the first element of a chunk of a chain that is no longer than a full one is an element of the parent
first_element : (place size chunk : ℕ) → 1 ≤ chunk → place < chunks_of chunk size → place * chunk + 0 < size
first_element place size chunk some below =
    let most : (place + 1) * chunk ≤ size + (chunk - 1) = (le-div_iff_mul-le some).0 (omega arith) in
    let more : (place + 1) * chunk ≡ place * chunk + chunk = ap (λ k. k * chunk) (add-one place) ∙ suc-mul place chunk in
    omega arith

cell_of_place : (place chunk : ℕ) (chain : List ℕ) → 1 ≤ chunk → chunk_cell chunk chain (place * chunk + 0) ≡ option_map (λ number. number * chunk + 0) (slice_get chain place)
cell_of_place place chunk chain some =
    let first : (place * chunk + 0) / chunk ≡ place = div-mul-add place chunk 0 some in
    let rest : (place * chunk + 0) % chunk ≡ 0 = mod-mul-add place chunk 0 some in
    ap (λ q. option_map (λ number. number * chunk + (place * chunk + 0) % chunk) (slice_get chain q)) first
    ∙ ap (λ r. option_map (λ number. number * chunk + r) (slice_get chain place)) rest

number_of_cell : (chunk number : ℕ) (o : Option ℕ) → 1 ≤ chunk → option_map (λ n. n * chunk + 0) o ≡ Some (number * chunk + 0) → o ≡ Some number
number_of_cell chunk number None some is = absurd (none-some (number * chunk + 0) is)
number_of_cell chunk number (Some n) some is =
    ap (λ k. Some k) (same_from_place n 0 number 0 chunk some some (same_Some (n * chunk + 0) (number * chunk + 0) is)).0

-- a full chain has a chunk, if there is an element
pub chain_some : (size chunk : ℕ) → 0 < size → 1 ≤ chunk → 1 ≤ chunks_of chunk size
chain_some size chunk sized some = (le-div_iff_mul-le some).1 (let one : 1 * chunk ≡ chunk = omega arith in omega (arith, one, sized))

-- ── The slot of an element, and its place ──

-- the slot of the node, as walks number them, that leads to what this slot holds: at a dynamic node the first element of the chunk
abbrev pub element_of : Kind → NodeShape → ℕ → ℕ
element_of Dense node slot = slot
element_of Bitmasked node slot = slot
element_of Pointer node slot = slot
element_of Hash node slot = slot
element_of Dynamic node slot = slot / full_chain node * size_of node.sizes + (slot % full_chain node * count_of node.chunk + 0)

-- the place of a number that a slot holds
abbrev pub place_of_number : Kind → NodeShape → ℕ → ℕ
place_of_number Dense node number = number
place_of_number Bitmasked node number = number
place_of_number Pointer node number = number
place_of_number Hash node number = number
place_of_number Dynamic node number = number * count_of node.chunk + 0

-- what the slots of a dynamic node need
pub record HasChunks (node : NodeShape) : Type 0 where
  pub sized : 0 < size_of node.sizes
  pub some_chunk : 1 ≤ count_of node.chunk

abbrev pub IfDynamic : Kind → NodeShape → Type 0
IfDynamic Dense node = Unit {0}
IfDynamic Bitmasked node = Unit {0}
IfDynamic Pointer node = Unit {0}
IfDynamic Hash node = Unit {0}
IfDynamic Dynamic node = HasChunks node

chunk_leads : (node : NodeShape) (kept : NodeWords) → HasChunks node → (slot : ℕ) → place_below Dynamic node kept (element_of Dynamic node slot) ≡ option_map (λ n. n * count_of node.chunk + 0) (held_at Dynamic node kept slot)
chunk_leads node kept has slot =
    let size : ℕ = size_of node.sizes in
    let chunk : ℕ = count_of node.chunk in
    let parent : ℕ = slot / full_chain node in
    let place : ℕ = slot % full_chain node in
    let below : place < full_chain node = mod_below slot (full_chain node) (chain_some size chunk has.sized has.some_chunk) in
    let index : ℕ = place * chunk + 0 in
    let within : index < size = first_element place size chunk has.some_chunk below in
    let up : (parent * size + index) / size ≡ parent = div-mul-add parent size index within in
    let along : (parent * size + index) % size ≡ index = mod-mul-add parent size index within in
    ap (λ p. chunk_cell chunk (list_of kept.chains p) ((parent * size + index) % size)) up
    ∙ ap (λ i. chunk_cell chunk (list_of kept.chains parent) i) along
    ∙ cell_of_place place chunk (list_of kept.chains parent) has.some_chunk

-- a slot that holds a number leads to its place
pub held_leads : (kind : Kind) (node : NodeShape) (kept : NodeWords) → IfDynamic kind node → (slot number : ℕ) → held_at kind node kept slot ≡ Some number → place_below kind node kept (element_of kind node slot) ≡ Some (place_of_number kind node number)
held_leads Dense node kept has slot number holds = absurd (none-some number holds)
held_leads Bitmasked node kept has slot number holds = absurd (none-some number holds)
held_leads Pointer node kept has slot number holds = holds
held_leads Hash node kept has slot number holds = holds
held_leads Dynamic node kept has slot number holds = chunk_leads node kept has slot ∙ ap (option_map (λ n. n * count_of node.chunk + 0)) holds

-- and the other way round, at a node whose slots hold numbers
pub leads_held : (kind : Kind) (node : NodeShape) (kept after : NodeWords) → IfDynamic kind node → (slot number : ℕ) → held_at kind node kept slot ≡ Some number → place_below kind node after (element_of kind node slot) ≡ Some (place_of_number kind node number) → held_at kind node after slot ≡ Some number
leads_held Dense node kept after has slot number holds leads = absurd (none-some number holds)
leads_held Bitmasked node kept after has slot number holds leads = absurd (none-some number holds)
leads_held Pointer node kept after has slot number holds leads = leads
leads_held Hash node kept after has slot number holds leads = leads
leads_held Dynamic node kept after has slot number holds leads =
    number_of_cell (count_of node.chunk) number (held_at Dynamic node after slot) has.some_chunk (sym (chunk_leads node after has slot) ∙ leads)

-- slots with the same element are the same
same_parts : (x y full size chunk : ℕ) → 1 ≤ full → 1 ≤ chunk → x % full * chunk + 0 < size → y % full * chunk + 0 < size → x / full * size + (x % full * chunk + 0) ≡ y / full * size + (y % full * chunk + 0) → x ≡ y
same_parts x y full size chunk some one x_below y_below same =
    let parts = same_from_place (x / full) (x % full * chunk + 0) (y / full) (y % full * chunk + 0) size x_below y_below same in
    let rest = same_from_place (x % full) 0 (y % full) 0 chunk one one parts.1 in
    sym (div-add-mod' x full) ∙ ap (λ n. n * full + x % full) parts.0 ∙ ap (λ n. y / full * full + n) rest.0 ∙ div-add-mod' y full

pub same_element : (kind : Kind) (node : NodeShape) → IfDynamic kind node → (x y : ℕ) → element_of kind node x ≡ element_of kind node y → x ≡ y
same_element Dense node has x y same = same
same_element Bitmasked node has x y same = same
same_element Pointer node has x y same = same
same_element Hash node has x y same = same
same_element Dynamic node has x y same =
    let some : 1 ≤ full_chain node = chain_some (size_of node.sizes) (count_of node.chunk) has.sized has.some_chunk in
    same_parts x y (full_chain node) (size_of node.sizes) (count_of node.chunk) some has.some_chunk
    (first_element (x % full_chain node) (size_of node.sizes) (count_of node.chunk) has.some_chunk (mod_below x (full_chain node) some))
    (first_element (y % full_chain node) (size_of node.sizes) (count_of node.chunk) has.some_chunk (mod_below y (full_chain node) some)) same

-- ── A node of a store ──

-- a chunk stands in a chain, so that its parent's length isn't 0
pub chunk_sized : (node : NodeShape) (kept : NodeWords) (slots : ℕ) (live : ℕ → Bool) → IsDynamicNode node kept slots live → (slot number : ℕ) → held_at Dynamic node kept slot ≡ Some number → HasChunks node
chunk_sized node kept slots live is slot number holds =
    let chunk : ℕ = count_of node.chunk in
    let parent : ℕ = slot / full_chain node in
    let place : ℕ = slot % full_chain node in
    let chain : List ℕ = list_of kept.chains parent in
    let there : parent < length kept.chains.lists = there_is_list kept.chains number parent place holds in
    let inside : place < length chain = slice_get_within chain place number holds in
    let fits : length chain ≡ chunks_of chunk (slice_index kept.lengths parent) = is.chains_fit parent (omega (arith, there, is.chain_count)) in
    record {
      sized = pos_of_ne-zero (λ none.
          let short : slice_index kept.lengths parent ≡ 0 = omega (arith, is.short parent, none) in
          absurd (omega (arith, inside, fits, ap (chunks_of chunk) short, no_chunks chunk is.some_chunk)));
      some_chunk = is.some_chunk;
    }

pub held_kind : (kind : Kind) (node : NodeShape) (kept : NodeWords) (slots : ℕ) (live : ℕ → Bool) → IsNode kind node kept slots live → (slot number : ℕ) → held_at kind node kept slot ≡ Some number → IfDynamic kind node
held_kind Dense node kept slots live is slot number holds = tt
held_kind Bitmasked node kept slots live is slot number holds = tt
held_kind Pointer node kept slots live is slot number holds = tt
held_kind Hash node kept slots live is slot number holds = tt
held_kind Dynamic node kept slots live is slot number holds = chunk_sized node kept slots live is slot number holds
