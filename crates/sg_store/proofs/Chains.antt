-- A dynamic node's chains of chunks: each slot below a length has a cell, one of the node's, and different slots have
-- different cells.
use Rattle.std.proofs.Common.{◌≡◌, ℕ, ◌+◌, ◌-◌, ◌*◌, ◌/◌, ◌%◌, ◌<◌, ◌≤◌, Bool, true, List, length, get_or, refl, sym, ap, ◌∙◌, arith, inl, inr}
use Rattle.std.specs.Prelude.{Option, Some, None, slice_get, slice_index}
use Rattle.std.specs.Option.{option_map}
use Rattle.std.proofs.Math.Nat.{div-lt_iff_lt-mul}
use Rattle.std.proofs.lemmas.Bool.{cases_Bool, cases_lt, ltb-true}
use Rattle.std.proofs.lemmas.Nat.{same_from_place, mul-add-lt, mod_below, div-add-mod'}
use Rattle.std.proofs.lemmas.List.{get_or_past}
use Rattle.std.proofs.lemmas.Option.{none-some, same_Some, slice_get-get_or}
use Rattle.sg_layout.specs.declared.shape.Kind.TheVariants.{Dynamic}
use Rattle.sg_layout.specs.declared.shape.NodeShape.{NodeShape}
use Rattle.sg_layout.specs.Axes.{count_of, size_of}
use Rattle.sg_links.specs.Lists.{Lists, list_of, times_in_lists, AreDisjoint}
use Rattle.sg_links.proofs.Uses.{one_if, stands, times_at, there_is_list, stands_at_one_place}
use Rattle.sg_pool.specs.Numbers.{PoolNumbers, is_live_number}
use Rattle.sg_pool.proofs.Uses.{live_is_number}
use Rattle.sg_dynamic.specs.Chunks.{chunks_of, IsExact}
use Rattle.sg_store.specs.declared.node.NodeWords.{NodeWords}
use Rattle.sg_store.specs.Slots.{chunk_cell, is_set, place_below}
use Rattle.sg_store.specs.WellFormed.{IsDynamicNode}

pub mapped : (f : ℕ → ℕ) (o : Option ℕ) (y : ℕ) → option_map f o ≡ Some y → (n : ℕ) × (o ≡ Some n) × (f n ≡ y)
mapped f None y e = absurd (none-some y e)
mapped f (Some n) y e = (n, refl, same_Some (f n) y e)

-- chains whose numbers are exactly the live ones are disjoint
pub disjoint_of : (chains : Lists) (pool : PoolNumbers) → IsExact chains pool → AreDisjoint chains
disjoint_of chains pool exact = record {
  once = λ x. elim (cases_Bool (is_live_number pool x)) [
    | inl live ↦ omega (arith, exact.live x, ap one_if live)
    | inr dead ↦ omega (arith, exact.live x, ap one_if dead)
  ];
  below = λ x some. elim (cases_Bool (is_live_number pool x)) [
    | inl live ↦ omega (arith, live_is_number pool x live, exact.places)
    | inr dead ↦ absurd (omega (arith, some, exact.live x, ap one_if dead))
  ];
}

-- the chunk of a cell, and where it stands in the chain
pub cell_in_chunk : (chunk : ℕ) (chain : List ℕ) (index cell : ℕ) → chunk_cell chunk chain index ≡ Some cell → (n : ℕ) × (slice_get chain (index / chunk) ≡ Some n) × (n * chunk + index % chunk ≡ cell)
cell_in_chunk chunk chain index cell e = mapped (λ n. n * chunk + index % chunk) (slice_get chain (index / chunk)) cell e

same_parts : (i j w : ℕ) → i / w ≡ j / w → i % w ≡ j % w → i ≡ j
same_parts i j w d m =
    sym (div-add-mod' i w) ∙ ap (λ n. n * w + i % w) d ∙ ap (λ n. j / w * w + n) m ∙ div-add-mod' j w

pub chunks_one : (node : NodeShape) (kept : NodeWords) (slots : ℕ) (live : ℕ → Bool) → IsDynamicNode node kept slots live → (x y place : ℕ) → place_below Dynamic node kept x ≡ Some place → place_below Dynamic node kept y ≡ Some place → x ≡ y
chunks_one node kept slots live is x y place p q =
    let size : ℕ = size_of node.sizes in
    let chunk : ℕ = count_of node.chunk in
    let some : 0 < chunk = omega (arith, is.some_chunk) in
    let a = cell_in_chunk chunk (list_of kept.chains (x / size)) (x % size) place p in
    let b = cell_in_chunk chunk (list_of kept.chains (y / size)) (y % size) place q in
    let same : a.0 * chunk + (x % size) % chunk ≡ b.0 * chunk + (y % size) % chunk = a.2 ∙ sym b.2 in
    let parts = same_from_place a.0 ((x % size) % chunk) b.0 ((y % size) % chunk) chunk (mod_below (x % size) chunk some) (mod_below (y % size) chunk some) same in
    let stand = stands_at_one_place kept.chains (disjoint_of kept.chains kept.pool is.exact) a.0 (x / size) ((x % size) / chunk) (y / size) ((y % size) / chunk) a.1 (b.1 ∙ ap Some (sym parts.0)) in
    same_parts x y size stand.0 (same_parts (x % size) (y % size) chunk stand.1 parts.1)

-- a cell is one of the node's
pub chunks_within : (node : NodeShape) (kept : NodeWords) (slots : ℕ) (live : ℕ → Bool) → IsDynamicNode node kept slots live → (q n : ℕ) → place_below Dynamic node kept q ≡ Some n → n < count_of node.cap * count_of node.chunk
chunks_within node kept slots live is q n e =
    let size : ℕ = size_of node.sizes in
    let chunk : ℕ = count_of node.chunk in
    let some : 0 < chunk = omega (arith, is.some_chunk) in
    let a = cell_in_chunk chunk (list_of kept.chains (q / size)) (q % size) n e in
    let head = there_is_list kept.chains a.0 (q / size) ((q % size) / chunk) a.1 in
    let stood : 0 < times_in_lists a.0 kept.chains.lists =
    omega (arith, stands (list_of kept.chains (q / size)) ((q % size) / chunk) a.0 a.1, times_at a.0 kept.chains.lists (q / size) head) in
    let low : a.0 < count_of node.cap = omega (arith, (disjoint_of kept.chains kept.pool is.exact).below a.0 stood, is.exact.places, is.places) in
    omega (arith, a.2, mul-add-lt a.0 chunk ((q % size) % chunk) (count_of node.cap) low (mod_below (q % size) chunk some))

-- ── Below a length there is a cell ──

-- as many chunks as a length needs have room for it
pub len_covered : (chunk len : ℕ) → 1 ≤ chunk → len ≤ chunks_of chunk len * chunk
len_covered chunk len some =
    let whole : ℕ = len + (chunk - 1) in
    let parts : whole / chunk * chunk + whole % chunk ≡ whole = div-add-mod' whole chunk in
    let rest : whole % chunk < chunk = mod_below whole chunk (omega (arith, some)) in
    omega (arith, parts, rest, some)

-- a length that isn't 0 is one of the list
pub length_there : (lengths : List ℕ) (parent index : ℕ) → index < slice_index lengths parent → parent < length lengths
length_there lengths parent index low = elim (cases_lt parent (length lengths)) [
  | inl below ↦ below
  | inr past ↦ absurd (omega (arith, low, get_or_past lengths parent 0 past))
]

pub below_leads : (node : NodeShape) (kept : NodeWords) (slots : ℕ) (live : ℕ → Bool) → IsDynamicNode node kept slots live → (q : ℕ) → is_set Dynamic node kept q ≡ true → (n : ℕ) × (place_below Dynamic node kept q ≡ Some n)
below_leads node kept slots live is q on =
    let chunk : ℕ = count_of node.chunk in
    let parent : ℕ = q / size_of node.sizes in
    let index : ℕ = q % size_of node.sizes in
    let len : ℕ = slice_index kept.lengths parent in
    let some : 0 < chunk = omega (arith, is.some_chunk) in
    let low : index < len = ltb-true index len on in
    let chain : List ℕ = list_of kept.chains parent in
    let long : length chain ≡ chunks_of chunk len = is.chains_fit parent (length_there kept.lengths parent index low) in
    let covered : len ≤ chunks_of chunk len * chunk = len_covered chunk len is.some_chunk in
    let first : index / chunk < chunks_of chunk len = (div-lt_iff_lt-mul {x = index} {y = chunks_of chunk len} some).1 (omega (arith, low, covered)) in
    let within : index / chunk < length chain = omega (arith, first, long) in
    (get_or chain (index / chunk) 0 * chunk + index % chunk, ap (option_map (λ n. n * chunk + index % chunk)) (slice_get-get_or chain (index / chunk) 0 within))
