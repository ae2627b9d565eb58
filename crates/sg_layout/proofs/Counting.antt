-- Counting storage words node by node gives the formula, and fits 64 bits.
use Rattle.std.proofs.Common.{◌≡◌, ℕ, suc, ◌+◌, ◌*◌, ◌/◌, ◌-◌, ◌^◌, ◌<◌, ◌≤◌, Bool, true, false, not, leb, Some, None, List, [], ◌∷◌, ◌++◌, length, take, get_or, max, refl, sym, ap, ◌∙◌, arith, inl, inr}
use Rattle.std.specs.List.{sum_by, position_or_len, range_with_len}
use Rattle.std.specs.Int.{IsPowerOfTwo, div_ceil}
use Rattle.std.proofs.Math.Pow.{pow_mono}
use Rattle.std.proofs.Math.Nat.{pow-suc}
use Rattle.std.proofs.lemmas.Bool.{le-leb, lt-leb, cases_lt}
use Rattle.std.proofs.lemmas.List.{append-nil, append_assoc, length_push, get_or_push, take_at}
use Rattle.std.proofs.lemmas.List.FromFn.{get_or-range_with_len, length-range_with_len}
use Rattle.std.proofs.lemmas.List.Sums.{position_or_len_is, prefix_len-le-length, sum_by-cons}
use Rattle.std.proofs.lemmas.Option.{slice_get-get_or}
use Rattle.std.specs.List.{slice_get}
use Rattle.sg_layout.specs.declared.shape.Kind.{Kind}
use Rattle.sg_layout.specs.declared.shape.Kind.TheVariants.{Dense, Bitmasked, Pointer, Hash, Dynamic}
use Rattle.sg_layout.specs.declared.shape.NodeShape.{NodeShape}
use Rattle.sg_layout.specs.declared.shape.Shape.{Shape}
use Rattle.sg_layout.specs.Axes.{count_of, size_of, slots_of}
use Rattle.sg_layout.specs.Rules.{has_good_order, first_node_fault}
use Rattle.sg_layout.specs.StorageWords.{ends_segment, put_before, segments, last_node, copies_after, mask_by, mask_words, power_for, end_by, end_words, copy_words, segment_words, chunks_by, words_of_shape}
use Rattle.sg_layout.specs.steps.WordSteps.{own_words, copies_next, slots_next, counted}
use Rattle.sg_layout.proofs.Keeping.{faultless_head, faultless_tail}

-- the least power of two
power_place : (n k : ℕ) → k ≤ 17 → n ≤ 2 ^ k → 2 ^ k / 2 < max 1 n → 1 ≤ n → position_or_len (λ j. leb n (2 ^ j)) (range_with_len 0 18) ≡ k
power_place n k low enough half some =
    position_or_len_is (λ j. leb n (2 ^ j)) (range_with_len 0 18) k 0 (omega (arith, length-range_with_len 0 18))
    (λ j below.
    let at : get_or (range_with_len 0 18) j 0 ≡ j = get_or-range_with_len 0 18 j 0 (omega arith) ∙ (omega arith) in
    let next : 2 ^ suc j ≤ 2 ^ k = pow_mono {i = suc j} {j = k} (omega arith) in
    let doubled : 2 ^ suc j ≡ 2 ^ j * 2 = pow-suc 2 j in
    ap (λ m. leb n (2 ^ m)) at ∙ lt-leb n (2 ^ j) (omega arith))
    (λ within.
    let at : get_or (range_with_len 0 18) k 0 ≡ k = get_or-range_with_len 0 18 k 0 (omega arith) ∙ (omega arith) in
    ap (λ m. leb n (2 ^ m)) at ∙ le-leb n (2 ^ k) enough)

small_power : (n k : ℕ) → 2 ^ k / 2 < max 1 n → n ≤ 2 ^ 17 → k ≤ 17
small_power n k half few = elim (cases_lt 17 k) [
  | inl long ↦ (let high : 2 ^ 18 ≤ 2 ^ k = pow_mono {i = 18} {j = k} (omega arith) in absurd (omega arith))
  | inr short ↦ short
]

pub power_is : (n p : ℕ) → IsPowerOfTwo p → n ≤ p → p / 2 < max 1 n → 1 ≤ n → n ≤ 2 ^ 17 → (p ≡ power_for n) × (p ≤ 2 ^ 17)
power_is n p (k, is) enough half some few =
    let half_k : 2 ^ k / 2 < max 1 n = rw is at half in
    let low : k ≤ 17 = small_power n k half_k few in
    let most : 2 ^ k ≤ 2 ^ 17 = pow_mono {i = k} {j = 17} low in
    let place = power_place n k low (omega arith) half_k some in
    (is ∙ ap (λ j. 2 ^ j) (sym place), omega arith)

-- it is 2 ^ 18 at most, whatever the number
pub power_most : (n : ℕ) → power_for n ≤ 2 ^ 18
power_most n =
    let place = prefix_len-le-length (λ k. not (leb n (2 ^ k))) (range_with_len 0 18) in
    pow_mono {i = position_or_len (λ k. leb n (2 ^ k)) (range_with_len 0 18)} {j = 18} (omega (arith, length-range_with_len 0 18))

-- nodes pushed to the front of what is cut already
glue : List NodeShape → List (List NodeShape) → List (List NodeShape)
glue front [] = front ∷ []
glue front (segment ∷ others) = (front ++ segment) ∷ others

glue_more : (front : List NodeShape) (node : NodeShape) (cut : List (List NodeShape)) → glue front (put_before false node cut) ≡ glue (front ++ node ∷ []) cut
unfolding glue
glue_more front node [] = refl
glue_more front node (segment ∷ others) = ap (λ s. s ∷ others) (sym (append_assoc front (node ∷ []) segment))

glue_end : (front : List NodeShape) (node : NodeShape) (cut : List (List NodeShape)) → glue front (put_before true node cut) ≡ (front ++ node ∷ []) ∷ cut
unfolding glue
glue_end front node cut = refl

glue_put : (ends : Bool) (node : NodeShape) (cut : List (List NodeShape)) → glue [] (put_before ends node cut) ≡ put_before ends node cut
unfolding glue
glue_put true node cut = refl
glue_put false node [] = refl
glue_put false node (segment ∷ others) = refl

glue_none : (nodes : List NodeShape) → glue [] (segments nodes) ≡ segments nodes
unfolding glue
glue_none [] = refl
glue_none (node ∷ later) = glue_put (ends_segment node.kind) node (segments later)

glue_alone : (front : List NodeShape) → glue front (segments []) ≡ front ∷ []
unfolding glue
glue_alone front = ap (λ s. s ∷ []) (append-nil front)

-- a node pushed to the end of a segment
last_push : (front : List NodeShape) (node : NodeShape) → last_node (front ++ node ∷ []) ≡ Some node
last_push front node =
    let long = length_push front node in
    let place : length (front ++ node ∷ []) - 1 ≡ length front = omega arith in
    ap (λ k. slice_get (front ++ node ∷ []) k) place
    ∙ slice_get-get_or (front ++ node ∷ []) (length front) node (omega arith)
    ∙ ap (λ n. Some n) (get_or_push front node node (length front) refl)

slots_push : (front : List NodeShape) (node : NodeShape) → slots_of (front ++ node ∷ []) ≡ slots_of front * size_of node.sizes
slots_push [] node = omega arith
slots_push (first ∷ front) node =
    let turned : size_of first.sizes * (slots_of front * size_of node.sizes) ≡ size_of first.sizes * slots_of front * size_of node.sizes = omega arith in
    ap (λ s. size_of first.sizes * s) (slots_push front node) ∙ turned

mask_push : (before : ℕ) (front : List NodeShape) (node : NodeShape) → mask_words before (front ++ node ∷ []) ≡ mask_words before front + mask_by node.kind (before * slots_of front * size_of node.sizes)
mask_push before [] node = (let e : before * size_of node.sizes ≡ before * 1 * size_of node.sizes = omega arith in ap (λ s. mask_by node.kind s + 0) e ∙ (omega arith))
mask_push before (first ∷ front) node =
    let e : before * size_of first.sizes * slots_of front * size_of node.sizes ≡ before * (size_of first.sizes * slots_of front) * size_of node.sizes = omega arith in
    ap (λ m. mask_by first.kind (before * size_of first.sizes) + m) (mask_push (before * size_of first.sizes) front node ∙ ap (λ s. mask_words (before * size_of first.sizes) front + mask_by node.kind s) e)
    ∙ (omega arith)

before_last : (front : List NodeShape) (node : NodeShape) → take (length (front ++ node ∷ []) - 1) (front ++ node ∷ []) ≡ front
before_last front node =
    let long = length_push front node in
    take_at front (node ∷ []) (length (front ++ node ∷ []) - 1) (omega arith)

-- what a node adds, where the segments are cut before it and where they aren't
abbrev chunk_words : ℕ → List NodeShape → ℕ
chunk_words fields nodes = sum_by (λ (node : NodeShape). chunks_by node.kind node fields) nodes

-- the end of the nodes before is that of a segment with cells
abbrev HasCells : ℕ → List NodeShape → Type 0
HasCells fields front = end_words (last_node front) front fields ≡ slots_of front * fields

-- the formula, of the nodes after those of a segment that is still open
abbrev IsCounted : (fields copies : ℕ) (front nodes : List NodeShape) → Type 0
IsCounted fields copies front nodes =
    segment_words fields copies (glue front (segments nodes)) + chunk_words fields nodes ≡ copies * mask_words 1 front + counted fields copies (slots_of front) nodes

counted_end : (fields copies : ℕ) (front : List NodeShape) → HasCells fields front → IsCounted fields copies front []
counted_end fields copies front cells =
    let cut : segment_words fields copies (glue front (segments [])) ≡ segment_words fields copies (front ∷ []) = ap (segment_words fields copies) (glue_alone front) in
    let whole : segment_words fields copies (front ∷ []) ≡ copies * (mask_words 1 front + slots_of front * fields) + 0 = ap (λ e. copies * (mask_words 1 front + e) + 0) cells in
    let turned : copies * (mask_words 1 front + slots_of front * fields) + 0 + 0 ≡ copies * mask_words 1 front + copies * (slots_of front * fields) = omega arith in
    ap (λ w. w + 0) (cut ∙ whole) ∙ turned

-- the end of a segment after a node whose kind leaves it open
cells_push : (fields : ℕ) (front : List NodeShape) (node : NodeShape) → ((segment : List NodeShape) → end_by node.kind node segment fields ≡ slots_of segment * fields) → HasCells fields (front ++ node ∷ [])
cells_push fields front node cells =
    let segment : List NodeShape = front ++ node ∷ [] in
    ap (λ last. end_words last segment fields) (last_push front node) ∙ cells segment

-- the masks of a segment with one more node, where the segment is the first
mask_first : (front : List NodeShape) (node : NodeShape) → mask_words 1 (front ++ node ∷ []) ≡ mask_words 1 front + mask_by node.kind (slots_of front * size_of node.sizes)
mask_first front node =
    let e : 1 * slots_of front * size_of node.sizes ≡ slots_of front * size_of node.sizes = omega arith in
    mask_push 1 front node ∙ ap (λ s. mask_words 1 front + mask_by node.kind s) e

-- a node that leaves its segment open, of a kind whose own words are those of its mask
counted_open : (fields copies : ℕ) (front : List NodeShape) (node : NodeShape) (later : List NodeShape) (mask : ℕ) → mask_words 1 (front ++ node ∷ []) ≡ mask_words 1 front + mask → IsCounted fields copies (front ++ node ∷ []) later → segment_words fields copies (glue front (put_before false node (segments later))) + (0 + chunk_words fields later) ≡ copies * mask_words 1 front + (copies * mask + 0 + counted fields copies (slots_of front * size_of node.sizes) later)
counted_open fields copies front node later mask masks rest =
    let glued = ap (segment_words fields copies) (glue_more front node (segments later)) in
    let turned : copies * (mask_words 1 front + mask) + counted fields copies (slots_of front * size_of node.sizes) later ≡ copies * mask_words 1 front + (copies * mask + 0 + counted fields copies (slots_of front * size_of node.sizes) later) = omega arith in
    ap (λ w. w + (0 + chunk_words fields later)) glued
    ∙ (let e : segment_words fields copies (glue (front ++ node ∷ []) (segments later)) + (0 + chunk_words fields later) ≡ segment_words fields copies (glue (front ++ node ∷ []) (segments later)) + chunk_words fields later = omega arith in e)
    ∙ rest
    ∙ ap (λ m. copies * m + counted fields copies (slots_of (front ++ node ∷ [])) later) masks
    ∙ ap (λ s. copies * (mask_words 1 front + mask) + counted fields copies s later) (slots_push front node)
    ∙ turned

-- a node that ends its segment with these words, before a segment with so many copies
counted_ends : (fields copies : ℕ) (front : List NodeShape) (node : NodeShape) (later : List NodeShape) (own next : ℕ) → mask_words 1 (front ++ node ∷ []) ≡ mask_words 1 front + 0 → end_words (Some node) (front ++ node ∷ []) fields ≡ own → copies_after (Some node) ≡ next → IsCounted fields next [] later → segment_words fields copies (glue front (put_before true node (segments later))) + (0 + chunk_words fields later) ≡ copies * mask_words 1 front + (copies * own + 0 + counted fields next 1 later)
counted_ends fields copies front node later own next masks end after rest =
    let segment : List NodeShape = front ++ node ∷ [] in
    let last = last_push front node in
    let here : copy_words fields segment ≡ mask_words 1 front + 0 + own = ap (λ m. m + end_words (last_node segment) segment fields) masks ∙ ap (λ n. mask_words 1 front + 0 + end_words n segment fields) last ∙ ap (λ e. mask_words 1 front + 0 + e) end in
    let copied : copies_after (last_node segment) ≡ next = ap copies_after last ∙ after in
    let others : segment_words fields next (segments later) + chunk_words fields later ≡ next * 0 + counted fields next 1 later = ap (λ cut. segment_words fields next cut + chunk_words fields later) (sym (glue_none later)) ∙ rest in
    let turned : copies * (mask_words 1 front + 0 + own) + segment_words fields next (segments later) + (0 + chunk_words fields later) ≡ copies * mask_words 1 front + (copies * own + 0 + counted fields next 1 later) = omega (arith, others) in
    ap (λ w. segment_words fields copies w + (0 + chunk_words fields later)) (glue_end front node (segments later))
    ∙ ap (λ w. copies * w + segment_words fields (copies_after (last_node segment)) (segments later) + (0 + chunk_words fields later)) here
    ∙ ap (λ k. copies * (mask_words 1 front + 0 + own) + segment_words fields k (segments later) + (0 + chunk_words fields later)) copied
    ∙ turned

-- a dynamic node, which is the last
counted_dynamic : (fields copies : ℕ) (front : List NodeShape) (node : NodeShape) (chunks : ℕ) → mask_words 1 (front ++ node ∷ []) ≡ mask_words 1 front + 0 → end_words (Some node) (front ++ node ∷ []) fields ≡ 2 * slots_of front → segment_words fields copies (glue front (put_before false node (segments []))) + (chunks + chunk_words fields []) ≡ copies * mask_words 1 front + (copies * (2 * slots_of front) + chunks + counted fields copies 0 [])
counted_dynamic fields copies front node chunks masks end =
    let segment : List NodeShape = front ++ node ∷ [] in
    let last = last_push front node in
    let here : copy_words fields segment ≡ mask_words 1 front + 0 + 2 * slots_of front = ap (λ m. m + end_words (last_node segment) segment fields) masks ∙ ap (λ n. mask_words 1 front + 0 + end_words n segment fields) last ∙ ap (λ e. mask_words 1 front + 0 + e) end in
    let turned : copies * (mask_words 1 front + 0 + 2 * slots_of front) + 0 + (chunks + 0) ≡ copies * mask_words 1 front + (copies * (2 * slots_of front) + chunks + copies * (0 * fields)) = omega arith in
    ap (λ w. segment_words fields copies w + (chunks + 0)) (glue_more front node (segments []) ∙ glue_alone segment)
    ∙ ap (λ w. copies * w + 0 + (chunks + 0)) here
    ∙ turned

-- each kind of node
counted_kind : (kind : Kind) (number fields copies : ℕ) (front : List NodeShape) (node : NodeShape) (later : List NodeShape) → node.kind ≡ kind → has_good_order kind number later ≡ true → (HasCells fields (front ++ node ∷ []) → IsCounted fields copies (front ++ node ∷ []) later) → IsCounted fields (count_of node.cap + 17) [] later → segment_words fields copies (glue front (put_before (ends_segment kind) node (segments later))) + (chunks_by kind node fields + chunk_words fields later) ≡ copies * mask_words 1 front + (copies * own_words kind node (slots_of front) (slots_of front * size_of node.sizes) + chunks_by kind node fields + counted fields (copies_next kind node copies) (slots_next kind (slots_of front * size_of node.sizes)) later)
counted_kind Dense number fields copies front node later is stands rest others =
    let masks = mask_first front node ∙ ap (λ k. mask_words 1 front + mask_by k (slots_of front * size_of node.sizes)) is in
    counted_open fields copies front node later 0 masks (rest (cells_push fields front node (λ segment. ap (λ k. end_by k node segment fields) is)))
counted_kind Bitmasked number fields copies front node later is stands rest others =
    let masks = mask_first front node ∙ ap (λ k. mask_words 1 front + mask_by k (slots_of front * size_of node.sizes)) is in
    counted_open fields copies front node later (div_ceil (slots_of front * size_of node.sizes) 64) masks (rest (cells_push fields front node (λ segment. ap (λ k. end_by k node segment fields) is)))
counted_kind Pointer number fields copies front node later is stands rest others =
    let masks = mask_first front node ∙ ap (λ k. mask_words 1 front + mask_by k (slots_of front * size_of node.sizes)) is in
    let end = ap (λ k. end_by k node (front ++ node ∷ []) fields) is ∙ slots_push front node in
    counted_ends fields copies front node later (slots_of front * size_of node.sizes) (count_of node.cap + 17) masks end refl others
counted_kind Hash number fields copies front node later is stands rest others =
    let masks = mask_first front node ∙ ap (λ k. mask_words 1 front + mask_by k (slots_of front * size_of node.sizes)) is in
    let end = ap (λ k. end_by k node (front ++ node ∷ []) fields) is in
    counted_ends fields copies front node later (2 * power_for (2 * count_of node.cap)) (count_of node.cap + 17) masks end refl others
counted_kind Dynamic number fields copies front node [] is stands rest others =
    let masks = mask_first front node ∙ ap (λ k. mask_words 1 front + mask_by k (slots_of front * size_of node.sizes)) is in
    let end = ap (λ k. end_by k node (front ++ node ∷ []) fields) is ∙ ap (λ xs. 2 * slots_of xs) (before_last front node) in
    counted_dynamic fields copies front node (chunks_by Dynamic node fields) masks end
counted_kind Dynamic number fields copies front node (next ∷ later) is stands rest others = cc

counted_from : (axes number fields copies : ℕ) (front nodes : List NodeShape) → first_node_fault axes number nodes ≡ None → HasCells fields front → IsCounted fields copies front nodes
counted_from axes number fields copies front [] none cells = counted_end fields copies front cells
counted_from axes number fields copies front (node ∷ later) none cells =
    let rest = faultless_tail axes number node later none in
    ap (λ w. segment_words fields copies (glue front (segments (node ∷ later))) + w) (sum_by-cons (λ (node : NodeShape). chunks_by node.kind node fields) node later)
    ∙ counted_kind node.kind number fields copies front node later refl (faultless_head axes number node later none).order
    (λ has. counted_from axes (suc number) fields copies (front ++ node ∷ []) later rest has)
    (counted_from axes (suc number) fields (count_of node.cap + 17) [] later rest refl)

pub counted_is : (shape : Shape) → first_node_fault shape.axes 1 shape.nodes ≡ None → words_of_shape shape ≡ counted (length shape.fields) 1 1 shape.nodes
counted_is shape none =
    let fields : ℕ = length shape.fields in
    ap (λ cut. segment_words fields 1 cut + chunk_words fields shape.nodes) (sym (glue_none shape.nodes))
    ∙ counted_from shape.axes 1 fields 1 [] shape.nodes none refl ∙ (let e : 1 * 0 + counted fields 1 1 shape.nodes ≡ counted fields 1 1 shape.nodes = omega arith in e)
