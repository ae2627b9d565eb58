-- As many chunks of a dynamic node are live as its lengths need.
use Rattle.std.proofs.Common.{◌≡◌, ℕ, zero, suc, ◌+◌, ◌<◌, Bool, false, cond, List, [], ◌∷◌, length, get_or, refl, sym, ◌∙◌, arith}
use Rattle.std.specs.Prelude.{sum_by, count_by, slice_index, slice_index_or}
use Rattle.std.proofs.lemmas.List.Sums.{sum_by-cons}
use Rattle.sg_layout.specs.declared.shape.NodeShape.{NodeShape}
use Rattle.sg_layout.specs.Axes.{count_of}
use Rattle.sg_links.specs.Lists.{times_in_lists}
use Rattle.sg_links.proofs.Uses.{sums, sums_same, total_is_sum}
use Rattle.sg_pool.specs.Numbers.{place_count, is_live_number, live_count}
use Rattle.sg_dynamic.specs.Chunks.{chunks_of, chunk_need}
use Rattle.sg_store.specs.declared.node.NodeWords.{NodeWords}
use Rattle.sg_store.specs.WellFormed.{IsDynamicNode}
use Rattle.sg_store.proofs.Chains.{disjoint_of}

sums_front : (f : ℕ → ℕ) (n : ℕ) → sums f (suc n) ≡ f 0 + sums (λ x. f (suc x)) n
sums_front f zero = omega arith
sums_front f (suc n) = omega (arith, sums_front f n)

count_live : (bs : List Bool) → count_by (λ b. b) bs ≡ sums (λ x. cond (slice_index_or bs x false) 1 0) (length bs)
count_live [] = refl
count_live (b ∷ bs) =
    omega (arith, sum_by-cons {X = Bool} (λ (b : Bool). cond b 1 0) b bs, sums_front (λ x. cond (slice_index_or (b ∷ bs) x false) 1 0) (length bs), count_live bs)

-- lists that are each as long as a length needs are together as long as all need
total_is_need : (chunk : ℕ) (lists : List (List ℕ)) (lengths : List ℕ) → length lists ≡ length lengths → ((i : ℕ) → i < length lengths → length (get_or lists i []) ≡ chunks_of chunk (slice_index lengths i)) → sum_by length lists ≡ chunk_need chunk lengths
total_is_need chunk [] [] many each = refl
total_is_need chunk [] (len ∷ lengths) many each = absurd (omega (arith, many))
total_is_need chunk (list ∷ lists) [] many each = absurd (omega (arith, many))
total_is_need chunk (list ∷ lists) (len ∷ lengths) many each =
    let first : length list ≡ chunks_of chunk len = each 0 (omega arith) in
    let rest : sum_by length lists ≡ chunk_need chunk lengths = total_is_need chunk lists lengths (omega (arith, many)) (λ i below. each (suc i) (omega (arith, below))) in
    omega (arith, sum_by-cons {X = List ℕ} length list lists, sum_by-cons {X = ℕ} (λ (k : ℕ). chunks_of chunk k) len lengths, first, rest)

pub live_chunks : (node : NodeShape) (kept : NodeWords) (slots : ℕ) (live : ℕ → Bool) → IsDynamicNode node kept slots live → live_count kept.pool ≡ chunk_need (count_of node.chunk) kept.lengths
live_chunks node kept slots live is =
    let disjoint = disjoint_of kept.chains kept.pool is.exact in
    let n : ℕ = place_count kept.pool in
    let total : sum_by length kept.chains.lists ≡ sums (λ x. times_in_lists x kept.chains.lists) n =
    total_is_sum n kept.chains.lists (λ x has. omega (arith, disjoint.below x has, is.exact.places)) in
    let same : sums (λ x. times_in_lists x kept.chains.lists) n ≡ sums (λ x. cond (is_live_number kept.pool x) 1 0) n =
    sums_same (λ x. times_in_lists x kept.chains.lists) (λ x. cond (is_live_number kept.pool x) 1 0) n is.exact.live in
    count_live kept.pool.live ∙ sym same ∙ sym total ∙ total_is_need (count_of node.chunk) kept.chains.lists kept.lengths is.chain_count is.chains_fit
