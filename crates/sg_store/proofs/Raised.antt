-- Lengths of a dynamic node that are raised, one slot after the other, and chains that are made to fit them: the node's
-- words have grown.
use Rattle.std.proofs.Common.{◌≡◌, ◌≢◌, ℕ, zero, suc, ◌+◌, ◌*◌, ◌/◌, ◌%◌, ◌<◌, ◌≤◌, Bool, true, false, ◌&&◌, ◌||◌, List, [], ◌∷◌, ◌++◌, length, take, get_or, refl, sym, ap, ◌∙◌, subst, arith, inl, inr}
use Rattle.std.specs.Prelude.{Some, None, nat_lt, nat_le, ◌==◌, slice_get, slice_index, slice_set}
use Rattle.std.specs.Option.{option_map}
use Rattle.std.specs.List.{list_any}
use Rattle.std.proofs.lemmas.Bool.{cases_eq, cases_Bool, or_left, or_right, ltb-true, lt-ltb, leb-true, le-leb, eq-eqb, ne_eqb}
use Rattle.std.proofs.lemmas.List.{length-set, get_or-set_same, get_or-set_other, get_or_default, take_more}
use Rattle.std.proofs.lemmas.List.Folds.{list_any-append}
use Rattle.std.proofs.lemmas.Option.{none-some}
use Rattle.sg_layout.specs.declared.shape.Kind.TheVariants.{Dynamic}
use Rattle.sg_layout.specs.declared.shape.NodeShape.{NodeShape}
use Rattle.sg_layout.specs.Axes.{count_of, size_of}
use Rattle.sg_links.specs.Lists.{list_of}
use Rattle.sg_links.proofs.Uses.{there_is_list}
use Rattle.sg_pool.specs.Numbers.{live_count}
use Rattle.sg_pool.proofs.Uses.{live_count_within}
use Rattle.sg_dynamic.specs.Chunks.{chunks_of}
use Rattle.sg_dynamic.proofs.Uses.{chunks_rise}
use Rattle.sg_store.specs.declared.node.NodeWords.{NodeWords}
use Rattle.sg_store.specs.Slots.{below_length, is_set, place_below}
use Rattle.sg_store.specs.WellFormed.{IsNode, IsDynamicNode, IsWithinCap, live_below}
use Rattle.sg_store.specs.steps.Settling.{NodeGrows}
use Rattle.sg_store.specs.steps.Raising.{keeps_too, IsRaised, RiseByMany, CanFitLengths, IsRefitted, CanLengthen}
use Rattle.sg_store.proofs.SlotPaths.{same_bool}
use Rattle.sg_store.proofs.Chains.{cell_in_chunk}

-- ── One slot ──

or_none : (b : Bool) → (b || false) ≡ b
or_none true = refl
or_none false = refl

one_longer : (o len m : ℕ) → len < m + 1 → nat_lt o (m + 1) ≡ (nat_lt o len || nat_le o m)
one_longer o len m short = same_bool (nat_lt o (m + 1)) (nat_lt o len || nat_le o m)
    (λ low. or_right (nat_lt o len) (nat_le o m) (le-leb o m (let below : o < m + 1 = ltb-true o (m + 1) low in omega arith)))
    (λ either. elim (cases_Bool (nat_lt o len)) [
      | inl first ↦ lt-ltb o (m + 1) (let below : o < len = ltb-true o len first in omega arith)
      | inr past ↦ lt-ltb o (m + 1) (let within : o ≤ m = leb-true o m (sym (ap (λ b. b || nat_le o m) past) ∙ either) in omega arith)
    ])

already_longer : (o len m : ℕ) → m + 1 ≤ len → nat_lt o len ≡ (nat_lt o len || nat_le o m)
already_longer o len m long = same_bool (nat_lt o len) (nat_lt o len || nat_le o m)
    (λ low. or_left (nat_lt o len) (nat_le o m) low)
    (λ either. elim (cases_Bool (nat_lt o len)) [
      | inl first ↦ first
      | inr past ↦ lt-ltb o len (let within : o ≤ m = leb-true o m (sym (ap (λ b. b || nat_le o m) past) ∙ either) in omega arith)
    ])

pub same_number : (n m : ℕ) → n ≡ m → (n == m) ≡ true
same_number n m e = eq-eqb n m e

-- under the slot's own parent, and under any other
keeps_here : (size slot other : ℕ) → other / size ≡ slot / size → keeps_too size slot other ≡ nat_le (other % size) (slot % size)
keeps_here size slot other same = ap (λ b. b && nat_le (other % size) (slot % size)) (same_number (other / size) (slot / size) same)

keeps_elsewhere : (size slot other : ℕ) → other / size ≢ slot / size → keeps_too size slot other ≡ false
keeps_elsewhere size slot other apart = ap (λ b. b && nat_le (other % size) (slot % size)) (ne_eqb (other / size) (slot / size) apart)

pub raised_more : (lengths after : List ℕ) (size slot : ℕ) → slot / size < length lengths → slice_index lengths (slot / size) < slot % size + 1 → slot % size < size → after ≡ slice_set lengths (slot / size) (slot % size + 1) → IsRaised lengths after size slot
raised_more lengths after size slot there short low is =
    let p : ℕ = slot / size in
    let here : slice_index after p ≡ slot % size + 1 = ap (λ ls. slice_index ls p) is ∙ get_or-set_same lengths p (slot % size + 1) 0 there in
    let others : (q : ℕ) → q ≢ p → slice_index after q ≡ slice_index lengths q = λ q apart. ap (λ ls. slice_index ls q) is ∙ get_or-set_other lengths p q (slot % size + 1) 0 apart in
    record {
      as_many = ap length is ∙ length-set lengths p (slot % size + 1);
      below = λ other. elim (cases_eq (other / size) p) [
        | inl same ↦
            ap (λ q. nat_lt (other % size) (slice_index after q)) same ∙ ap (nat_lt (other % size)) here
            ∙ one_longer (other % size) (slice_index lengths p) (slot % size) short
            ∙ ap (λ q. nat_lt (other % size) (slice_index lengths q) || nat_le (other % size) (slot % size)) (sym same)
            ∙ ap (λ b. below_length lengths size other || b) (sym (keeps_here size slot other same))
        | inr apart ↦
            ap (nat_lt (other % size)) (others (other / size) apart)
            ∙ sym (or_none (below_length lengths size other))
            ∙ ap (λ b. below_length lengths size other || b) (sym (keeps_elsewhere size slot other apart))
      ];
      rise = λ q. elim (cases_eq q p) [
        | inl same ↦ subst (λ n. slice_index lengths n ≤ slice_index after n) (sym same) (omega (arith, here, short))
        | inr apart ↦ omega (arith, others q apart)
      ];
      short = λ q within. elim (cases_eq q p) [
        | inl same ↦ subst (λ n. slice_index after n ≤ size) (sym same) (omega (arith, here, low))
        | inr apart ↦ omega (arith, others q apart, within)
      ];
    }

pub raised_same : (lengths after : List ℕ) (size slot : ℕ) → slot % size + 1 ≤ slice_index lengths (slot / size) → after ≡ lengths → IsRaised lengths after size slot
raised_same lengths after size slot long is = subst (λ ls. IsRaised lengths ls size slot) (sym is) (record {
  as_many = refl;
  below = λ other. elim (cases_eq (other / size) (slot / size)) [
    | inl same ↦
        already_longer (other % size) (slice_index lengths (other / size)) (slot % size) (subst (λ q. slot % size + 1 ≤ slice_index lengths q) (sym same) long)
        ∙ ap (λ b. below_length lengths size other || b) (sym (keeps_here size slot other same))
    | inr apart ↦ sym (or_none (below_length lengths size other)) ∙ ap (λ b. below_length lengths size other || b) (sym (keeps_elsewhere size slot other apart))
  ];
  rise = λ q. omega arith;
  short = λ q within. within;
})

-- ── Many slots ──

or_assoc : (a b c : Bool) → ((a || b) || c) ≡ (a || (b || c))
or_assoc true b c = refl
or_assoc false b c = refl

pub raised_none : (lengths : List ℕ) (size : ℕ) → RiseByMany lengths lengths size []
raised_none lengths size = record { as_many = refl; below = λ other. sym (or_none (below_length lengths size other)); rise = λ q. omega arith; short = λ q within. within }

pub raised_next : (before now after slots : List ℕ) (size i slot : ℕ) → RiseByMany before now size (take i slots) → i < length slots → slot ≡ get_or slots i 0 → IsRaised now after size slot → RiseByMany before after size (take (i + 1) slots)
raised_next before now after slots size i slot far within is one =
    let more : take (i + 1) slots ≡ take i slots ++ slot ∷ [] = take_more slots i 0 within ∙ ap (λ n. take i slots ++ n ∷ []) (sym is) in
    subst (λ ss. RiseByMany before after size ss) (sym more) (record {
      as_many = one.as_many ∙ far.as_many;
      below = λ other.
          let p : ℕ → Bool = λ n. keeps_too size n other in
          let any : list_any p (take i slots ++ slot ∷ []) ≡ (list_any p (take i slots) || keeps_too size slot other) =
          list_any-append p (take i slots) (slot ∷ []) ∙ ap (λ b. list_any p (take i slots) || b) (or_none (keeps_too size slot other)) in
          one.below other ∙ ap (λ b. b || keeps_too size slot other) (far.below other)
          ∙ or_assoc (below_length before size other) (list_any p (take i slots)) (keeps_too size slot other)
          ∙ sym (ap (λ b. below_length before size other || b) any);
      rise = λ q. omega (arith, far.rise q, one.rise q);
      short = λ q within. one.short q (far.short q within);
    })

-- ── Chains fit ──

pub can_fit : (lengths : List ℕ) (chunk : ℕ) (node : NodeShape) (kept : NodeWords) (slots : ℕ) (live : ℕ → Bool) → IsDynamicNode node kept slots live → CanLengthen lengths chunk node kept slots live → CanFitLengths lengths chunk kept
can_fit lengths chunk node kept slots live is can =
    let some : 1 ≤ chunk = omega (arith, is.some_chunk, can.chunk_is) in
    record {
      some = some;
      short = λ k d below. omega (arith, get_or_default lengths k d 0 below, can.short k, can.few);
      room = record {
        many = is.chain_count ∙ sym can.as_many;
        within = λ i below.
            let old : length (list_of kept.chains i) ≡ chunks_of chunk (slice_index kept.lengths i) =
            is.chains_fit i (omega (arith, below, can.as_many)) ∙ ap (λ c. chunks_of c (slice_index kept.lengths i)) can.chunk_is in
            omega (arith, old, chunks_rise chunk (slice_index kept.lengths i) (slice_index lengths i) some (can.rise i));
      };
      exact = is.exact;
      as_many = can.as_many;
    }

-- what stands in the front of a list stands in the list
in_front : (ys : List ℕ) (n k x : ℕ) → slice_get (take n ys) k ≡ Some x → slice_get ys k ≡ Some x
in_front ys zero k x at = absurd (none-some x at)
in_front [] (suc n) k x at = at
in_front (y ∷ ys) (suc n) zero x at = at
in_front (y ∷ ys) (suc n) (suc k) x at = in_front ys n k x at

pub fitted_node : (lengths : List ℕ) (chunk : ℕ) (node : NodeShape) (kept after : NodeWords) (slots : ℕ) (live : ℕ → Bool) → IsDynamicNode node kept slots live → CanLengthen lengths chunk node kept slots live → IsRefitted lengths chunk kept after → IsDynamicNode node after slots live
fitted_node lengths chunk node kept after slots live is can fit =
    let many : length after.lengths ≡ length kept.lengths = ap length fit.new_lengths ∙ can.as_many in
    record {
      length_count = ap (λ n. n * size_of node.sizes) many ∙ is.length_count;
      short = λ p. omega (arith, ap (λ ls. slice_index ls p) fit.new_lengths, can.short p);
      chain_count = fit.fitted.many ∙ is.chain_count ∙ sym many;
      chains_fit = λ p below.
          fit.fitted.long p (omega (arith, below, ap length fit.new_lengths))
          ∙ ap (λ c. chunks_of c (slice_index lengths p)) (sym can.chunk_is)
          ∙ ap (λ ls. chunks_of (count_of node.chunk) (slice_index ls p)) (sym fit.new_lengths);
      places = sym fit.exact.places ∙ fit.fitted.numbers ∙ is.exact.places ∙ is.places;
      exact = fit.exact;
      some_chunk = is.some_chunk;
      in_live = λ q on. can.in_live q (sym (ap (λ ls. below_length ls (size_of node.sizes) q) fit.new_lengths) ∙ on);
    }

cell_stays : (lengths : List ℕ) (chunk : ℕ) (node : NodeShape) (kept after : NodeWords) (slots : ℕ) (live : ℕ → Bool) → IsDynamicNode node kept slots live → CanLengthen lengths chunk node kept slots live → IsRefitted lengths chunk kept after → (q n : ℕ) → place_below Dynamic node kept q ≡ Some n → place_below Dynamic node after q ≡ Some n
cell_stays lengths chunk node kept after slots live is can fit q n e =
    let size : ℕ = size_of node.sizes in
    let own : ℕ = count_of node.chunk in
    let old : List ℕ = list_of kept.chains (q / size) in
    let a = cell_in_chunk own old (q % size) n e in
    let head = there_is_list kept.chains a.0 (q / size) ((q % size) / own) a.1 in
    let front : take (length old) (list_of after.chains (q / size)) ≡ old = fit.fitted.front (q / size) (omega (arith, head, is.chain_count, can.as_many)) in
    let at : slice_get (list_of after.chains (q / size)) ((q % size) / own) ≡ Some a.0 =
    in_front (list_of after.chains (q / size)) (length old) ((q % size) / own) a.0 (ap (λ l. slice_get l ((q % size) / own)) front ∙ a.1) in
    ap (option_map (λ m. m * own + (q % size) % own)) at ∙ ap Some a.2

pub lengths_grow : (lengths : List ℕ) (chunk : ℕ) (node : NodeShape) (kept after : NodeWords) (slots : ℕ) (live : ℕ → Bool) → IsNode node.kind node kept slots live → CanLengthen lengths chunk node kept slots live → IsRefitted lengths chunk kept after → NodeGrows after node kept slots live
lengths_grow lengths chunk node kept after slots live own can fit =
    let dynamic : Dynamic ≡ node.kind = sym can.is_dynamic in
    let is : IsDynamicNode node kept slots live = subst (λ k. IsNode k node kept slots live) can.is_dynamic own in
    record {
      is_node = subst (λ k. IsNode k node after slots live) dynamic (fitted_node lengths chunk node kept after slots live is can fit);
      set_stays = subst (λ k. (q : ℕ) → is_set k node kept q ≡ true → is_set k node after q ≡ true) dynamic
          (λ q on.
          let size : ℕ = size_of node.sizes in
          let low : q % size < slice_index kept.lengths (q / size) = ltb-true (q % size) (slice_index kept.lengths (q / size)) on in
          lt-ltb (q % size) (slice_index after.lengths (q / size)) (omega (arith, low, can.rise (q / size), ap (λ ls. slice_index ls (q / size)) fit.new_lengths)));
      leads_stays = subst (λ k. (q n : ℕ) → place_below k node kept q ≡ Some n → place_below k node after q ≡ Some n) dynamic
          (λ q n e. cell_stays lengths chunk node kept after slots live is can fit q n e);
      fresh = subst (λ k. (q n : ℕ) → place_below k node kept q ≡ None → place_below k node after q ≡ Some n → live_below k kept live n ≡ false) dynamic (λ q n none e. refl);
      live_stays = subst (λ k. (n : ℕ) → live_below k kept live n ≡ true → live_below k after live n ≡ true) dynamic (λ n on. on);
    }

-- as many chunks are live as the cap at most
pub lengths_capped : (lengths : List ℕ) (chunk : ℕ) (node : NodeShape) (kept after : NodeWords) (slots : ℕ) (live : ℕ → Bool) → IsNode node.kind node kept slots live → CanLengthen lengths chunk node kept slots live → IsRefitted lengths chunk kept after → IsWithinCap node.kind node after
lengths_capped lengths chunk node kept after slots live own can fit =
    let is : IsDynamicNode node kept slots live = subst (λ k. IsNode k node kept slots live) can.is_dynamic own in
    let low : live_count after.pool ≤ count_of node.cap = omega (arith, live_count_within after.pool, (fitted_node lengths chunk node kept after slots live is can fit).places) in
    subst (λ k. IsWithinCap k node after) (sym can.is_dynamic) low
