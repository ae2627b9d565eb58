-- A dynamic node whose lengths fall.
use Rattle.std.proofs.Common.{◌≡◌, ℕ, zero, suc, ◌+◌, ◌-◌, ◌*◌, ◌/◌, ◌%◌, ◌<◌, ◌≤◌, Bool, true, false, ◌&&◌, nat_lt, List, [], ◌∷◌, length, take, Option, Some, None, option_map, refl, sym, ap, ◌∙◌, subst, arith, inl, inr, add-one}
use Rattle.std.specs.Prelude.{slice_get, slice_index}
use Rattle.std.proofs.lemmas.Bool.Decides.{leb_tells}
use Rattle.std.proofs.lemmas.Bool.{false≢true}
use Rattle.std.proofs.lemmas.Option.{none-some}
use Rattle.std.proofs.Math.Nat.{le-div_iff_mul-le, suc-mul, div-mul-le_self}
use Rattle.sg_layout.specs.declared.shape.Kind.{Kind}
use Rattle.sg_layout.specs.declared.shape.Kind.TheVariants.{Dynamic}
use Rattle.sg_layout.specs.declared.shape.NodeShape.{NodeShape}
use Rattle.sg_layout.specs.Axes.{count_of, size_of}
use Rattle.sg_links.specs.Lists.{list_of}
use Rattle.sg_dynamic.specs.Chunks.{chunks_of}
use Rattle.sg_dynamic.proofs.Uses.{chunks_rise}
use Rattle.std.proofs.lemmas.List.{length-take-le}
use Rattle.sg_store.specs.declared.node.NodeWords.{NodeWords}
use Rattle.sg_store.specs.Slots.{is_set, place_below, chunk_cell}
use Rattle.sg_store.specs.steps.Cutting.{TrimsLengths, LengthsTrim, below_lengths, ChainsTrim}

-- what is below the lower of two lengths
below_both : (index less more : ℕ) → less ≤ more → nat_lt index less ≡ (nat_lt index more && nat_lt index less)
below_both index less more falls = elim (leb_tells (suc index) less) [
  | inl yes_is ↦ elim (leb_tells (suc index) more) [
    | inl also ↦ yes_is.0 ∙ sym (ap (λ b. b && nat_lt index less) also.0 ∙ yes_is.0)
    | inr no_is ↦ absurd (omega (arith, yes_is.1, no_is.1))
  ]
  | inr no_is ↦ no_is.0 ∙ sym (and_no (nat_lt index more) (nat_lt index less) no_is.0)
]
  where
    and_no : (a b : Bool) → b ≡ false → (a && b) ≡ false
    and_no true b e = e
    and_no false b e = refl

-- an index below a length stands in one of its chunks
in_a_chunk : (index len chunk : ℕ) → 1 ≤ chunk → index < len → index / chunk < chunks_of chunk len
in_a_chunk index len chunk some below =
    let q : ℕ = index / chunk in
    let low : q * chunk ≤ index = div-mul-le_self index chunk in
    let more : (q + 1) * chunk ≡ q * chunk + chunk = ap (λ k. k * chunk) (add-one q) ∙ suc-mul q chunk in
    let next : q + 1 ≤ (len + (chunk - 1)) / chunk = (le-div_iff_mul-le some).1 (omega (arith, low, more, below)) in
    omega (arith, next)

front_same : (xs : List ℕ) (n k : ℕ) → k < n → slice_get (take n xs) k ≡ slice_get xs k
front_same xs zero k below = absurd (omega arith)
front_same [] (suc n) k below = refl
front_same (x ∷ xs) (suc n) zero below = refl
front_same (x ∷ xs) (suc n) (suc k) below = front_same xs n k (omega arith)

front_less : (xs : List ℕ) (n k x : ℕ) → slice_get (take n xs) k ≡ Some x → slice_get xs k ≡ Some x
front_less [] zero k x is = is
front_less [] (suc n) k x is = is
front_less (y ∷ ys) zero k x is = absurd (none-some x is)
front_less (y ∷ ys) (suc n) zero x is = is
front_less (y ∷ ys) (suc n) (suc k) x is = front_less ys n k x is

map_less : (f : ℕ → ℕ) (o was : Option ℕ) (x : ℕ) → ((n : ℕ) → o ≡ Some n → was ≡ Some n) → option_map f o ≡ Some x → option_map f was ≡ Some x
map_less f None was x less is = absurd (none-some x is)
map_less f (Some n) was x less is = ap (option_map f) (less n refl) ∙ is

abbrev TrimsKind : Kind → (ℕ → Bool) → NodeShape → NodeWords → NodeWords → Type 0
TrimsKind kind keep node kept after =
    ((slot : ℕ) → is_set kind node after slot ≡ (is_set kind node kept slot && keep slot))
    × ((slot : ℕ) → keep slot ≡ true → place_below kind node after slot ≡ place_below kind node kept slot)
    × ((slot place : ℕ) → place_below kind node after slot ≡ Some place → place_below kind node kept slot ≡ Some place)

dynamic_trims : (node : NodeShape) (kept after : NodeWords) → TrimsLengths node kept after → TrimsKind Dynamic (below_lengths node after) node kept after
dynamic_trims node kept after trims = (
  λ slot. below_both (slot % size_of node.sizes) (slice_index after.lengths (slot / size_of node.sizes)) (slice_index kept.lengths (slot / size_of node.sizes)) (trims.fall (slot / size_of node.sizes)),
  λ slot on.
      let size : ℕ = size_of node.sizes in
      let chunk : ℕ = count_of node.chunk in
      let parent : ℕ = slot / size in
      let index : ℕ = slot % size in
      let len : ℕ = slice_index after.lengths parent in
      let below : index < len = elim (leb_tells (suc index) len) [
        | inl yes_is ↦ yes_is.1
        | inr no_is ↦ absurd (false≢true (sym no_is.0 ∙ on))
      ] in
      let in_front : index / chunk < chunks_of chunk len = in_a_chunk index len chunk trims.some_chunk below in
      ap (λ list. chunk_cell chunk list index) (trims.chains parent)
      ∙ ap (option_map (λ number. number * chunk + index % chunk)) (front_same (list_of kept.chains parent) (chunks_of chunk len) (index / chunk) in_front),
  λ slot place leads.
      let size : ℕ = size_of node.sizes in
      let chunk : ℕ = count_of node.chunk in
      let parent : ℕ = slot / size in
      let index : ℕ = slot % size in
      let len : ℕ = slice_index after.lengths parent in
      map_less (λ number. number * chunk + index % chunk) (slice_get (take (chunks_of chunk len) (list_of kept.chains parent)) (index / chunk)) (slice_get (list_of kept.chains parent) (index / chunk)) place
      (λ n is. front_less (list_of kept.chains parent) (chunks_of chunk len) (index / chunk) n is)
      (sym (ap (λ list. chunk_cell chunk list index) (trims.chains parent)) ∙ leads),
)

pub lengths_trim : (node : NodeShape) (kept after : NodeWords) → LengthsTrim node kept after
lengths_trim node kept after is trims =
    let t = subst (λ (kind : Kind). TrimsKind kind (below_lengths node after) node kept after) (sym is) (dynamic_trims node kept after trims) in
    record { set = t.0; leads = t.1; less = t.2 }

-- ── And is a dynamic node again ──

pub chains_trim : (node : NodeShape) (kept after : NodeWords) → ChainsTrim node kept after
chains_trim node kept after t slots live now is in_now = record {
  length_count = ap (λ n. n * size_of node.sizes) t.as_many ∙ is.length_count;
  short = λ parent. omega (arith, t.trims.fall parent, is.short parent);
  chain_count = t.chain_count ∙ is.chain_count ∙ sym t.as_many;
  chains_fit = λ parent below.
      let chunk : ℕ = count_of node.chunk in
      let wanted : ℕ = chunks_of chunk (slice_index after.lengths parent) in
      let was : length (list_of kept.chains parent) ≡ chunks_of chunk (slice_index kept.lengths parent) = is.chains_fit parent (omega (arith, t.as_many)) in
      let fewer : wanted ≤ chunks_of chunk (slice_index kept.lengths parent) = chunks_rise chunk (slice_index after.lengths parent) (slice_index kept.lengths parent) is.some_chunk (t.trims.fall parent) in
      ap length (t.trims.chains parent) ∙ length-take-le wanted (list_of kept.chains parent) (omega (arith, was, fewer));
  places = t.places ∙ is.places;
  exact = t.exact;
  some_chunk = is.some_chunk;
  in_live = λ slot set. in_now slot set;
}
