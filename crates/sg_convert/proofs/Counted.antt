-- Counting used words node by node gives the formula.
use Rattle.std.proofs.Common.{◌≡◌, ℕ, suc, ◌+◌, ◌*◌, ◌/◌, ◌-◌, ◌^◌, ◌<◌, ◌≤◌, Bool, true, false, not, leb, Some, None, List, [], ◌∷◌, ◌++◌, length, take, get_or, max, refl, sym, ap, ◌∙◌, arith, inl, inr}
use Rattle.std.specs.List.{position_or_len, range_with_len, slice_get}
use Rattle.std.specs.Int.{IsPowerOfTwo, div_ceil}
use Rattle.std.proofs.Math.Pow.{pow_mono}
use Rattle.std.proofs.Math.Nat.{pow-suc}
use Rattle.std.proofs.lemmas.Bool.{le-leb, lt-leb, cases_lt}
use Rattle.std.proofs.lemmas.List.{append-nil, append_assoc, length_push, get_or_push, take_at}
use Rattle.std.proofs.lemmas.List.FromFn.{get_or-range_with_len, length-range_with_len}
use Rattle.std.proofs.lemmas.List.Sums.{position_or_len_is, prefix_len-le-length}
use Rattle.std.proofs.lemmas.Option.{slice_get-get_or}
use Rattle.sg_coord.specs.declared.coord.Coord.{Coord}
use Rattle.sg_layout.specs.declared.shape.Kind.{Kind}
use Rattle.sg_layout.specs.declared.shape.Kind.TheVariants.{Dense, Bitmasked, Pointer, Hash, Dynamic}
use Rattle.sg_layout.specs.declared.shape.NodeShape.{NodeShape}
use Rattle.sg_layout.specs.declared.shape.Shape.{Shape}
use Rattle.sg_layout.specs.Axes.{count_of, size_of, slots_of}
use Rattle.sg_layout.specs.Need.{need_of}
use Rattle.sg_layout.specs.Rules.{has_good_order, first_node_fault}
use Rattle.sg_layout.specs.StorageWords.{ends_segment, put_before, segments, last_node, mask_by, mask_words, power_for, end_by, end_words, copy_words}
use Rattle.sg_layout.proofs.Uses.{faultless_head, faultless_tail}
use Rattle.sg_convert.specs.Used.{copies_used, segments_used, chunks_by_need, chunks_used, used_words}
use Rattle.sg_convert.specs.steps.Counting.{own_words, chunks_for, copies_next, slots_next, counted}

-- the least power of two
power_place : (n k : ℕ) → k ≤ 17 → n ≤ 2 ^ k → 2 ^ k / 2 < max 1 n → 1 ≤ n → position_or_len (λ j. leb n (2 ^ j)) (range_with_len 0 18) ≡ k
power_place n k low enough half some =
    position_or_len_is (λ j. leb n (2 ^ j)) (range_with_len 0 18) k 0 (omega (arith, length-range_with_len 0 18))
    (λ j below.
    let at : get_or (range_with_len 0 18) j 0 ≡ j = get_or-range_with_len 0 18 j 0 (omega arith) ∙ (omega arith) in
    let next : 2 ^ suc j ≤ 2 ^ k = pow_mono {i = suc j} {j = k} (omega arith) in
    let doubled : 2 ^ suc j ≡ 2 ^ j * 2 = pow-suc 2 j in
    ap (λ m. leb n (2 ^ m)) at ∙ lt-leb n (2 ^ j) (omega arith))
    (λ within.
    let at : get_or (range_with_len 0 18) k 0 ≡ k = get_or-range_with_len 0 18 k 0 (omega arith) ∙ (omega arith) in
    ap (λ m. leb n (2 ^ m)) at ∙ le-leb n (2 ^ k) enough)

small_power : (n k : ℕ) → 2 ^ k / 2 < max 1 n → n ≤ 2 ^ 17 → k ≤ 17
small_power n k half few = elim (cases_lt 17 k) [
  | inl long ↦ (let high : 2 ^ 18 ≤ 2 ^ k = pow_mono {i = 18} {j = k} (omega arith) in absurd (omega arith))
  | inr short ↦ short
]

pub power_is : (n p : ℕ) → IsPowerOfTwo p → n ≤ p → p / 2 < max 1 n → 1 ≤ n → n ≤ 2 ^ 17 → (p ≡ power_for n) × (p ≤ 2 ^ 17)
power_is n p (k, is) enough half some few =
    let half_k : 2 ^ k / 2 < max 1 n = rw is at half in
    let low : k ≤ 17 = small_power n k half_k few in
    let most : 2 ^ k ≤ 2 ^ 17 = pow_mono {i = k} {j = 17} low in
    let place = power_place n k low (omega arith) half_k some in
    (is ∙ ap (λ j. 2 ^ j) (sym place), omega arith)

-- it is 2 ^ 18 at most, whatever the number
pub power_most : (n : ℕ) → power_for n ≤ 2 ^ 18
power_most n =
    let place = prefix_len-le-length (λ k. not (leb n (2 ^ k))) (range_with_len 0 18) in
    pow_mono {i = position_or_len (λ k. leb n (2 ^ k)) (range_with_len 0 18)} {j = 18} (omega (arith, length-range_with_len 0 18))

-- nodes pushed to the front of what is cut already
glue : List NodeShape → List (List NodeShape) → List (List NodeShape)
glue front [] = front ∷ []
glue front (segment ∷ others) = (front ++ segment) ∷ others

glue_more : (front : List NodeShape) (node : NodeShape) (cut : List (List NodeShape)) → glue front (put_before false node cut) ≡ glue (front ++ node ∷ []) cut
unfolding glue
glue_more front node [] = refl
glue_more front node (segment ∷ others) = ap (λ s. s ∷ others) (sym (append_assoc front (node ∷ []) segment))

glue_end : (front : List NodeShape) (node : NodeShape) (cut : List (List NodeShape)) → glue front (put_before true node cut) ≡ (front ++ node ∷ []) ∷ cut
unfolding glue
glue_end front node cut = refl

glue_put : (ends : Bool) (node : NodeShape) (cut : List (List NodeShape)) → glue [] (put_before ends node cut) ≡ put_before ends node cut
unfolding glue
glue_put true node cut = refl
glue_put false node [] = refl
glue_put false node (segment ∷ others) = refl

glue_none : (nodes : List NodeShape) → glue [] (segments nodes) ≡ segments nodes
unfolding glue
glue_none [] = refl
glue_none (node ∷ later) = glue_put (ends_segment node.kind) node (segments later)

glue_alone : (front : List NodeShape) → glue front (segments []) ≡ front ∷ []
unfolding glue
glue_alone front = ap (λ s. s ∷ []) (append-nil front)

-- a node pushed to the end of a segment
last_push : (front : List NodeShape) (node : NodeShape) → last_node (front ++ node ∷ []) ≡ Some node
last_push front node =
    let long = length_push front node in
    let place : length (front ++ node ∷ []) - 1 ≡ length front = omega arith in
    ap (λ k. slice_get (front ++ node ∷ []) k) place
    ∙ slice_get-get_or (front ++ node ∷ []) (length front) node (omega arith)
    ∙ ap (λ n. Some n) (get_or_push front node node (length front) refl)

slots_push : (front : List NodeShape) (node : NodeShape) → slots_of (front ++ node ∷ []) ≡ slots_of front * size_of node.sizes
slots_push [] node = omega arith
slots_push (first ∷ front) node =
    let turned : size_of first.sizes * (slots_of front * size_of node.sizes) ≡ size_of first.sizes * slots_of front * size_of node.sizes = omega arith in
    ap (λ s. size_of first.sizes * s) (slots_push front node) ∙ turned

mask_push : (before : ℕ) (front : List NodeShape) (node : NodeShape) → mask_words before (front ++ node ∷ []) ≡ mask_words before front + mask_by node.kind (before * slots_of front * size_of node.sizes)
mask_push before [] node = (let e : before * size_of node.sizes ≡ before * 1 * size_of node.sizes = omega arith in ap (λ s. mask_by node.kind s + 0) e ∙ (omega arith))
mask_push before (first ∷ front) node =
    let e : before * size_of first.sizes * slots_of front * size_of node.sizes ≡ before * (size_of first.sizes * slots_of front) * size_of node.sizes = omega arith in
    ap (λ m. mask_by first.kind (before * size_of first.sizes) + m) (mask_push (before * size_of first.sizes) front node ∙ ap (λ s. mask_words (before * size_of first.sizes) front + mask_by node.kind s) e)
    ∙ (omega arith)

before_last : (front : List NodeShape) (node : NodeShape) → take (length (front ++ node ∷ []) - 1) (front ++ node ∷ []) ≡ front
before_last front node =
    let long = length_push front node in
    take_at front (node ∷ []) (length (front ++ node ∷ []) - 1) (omega arith)

-- the end of the nodes before is that of a segment with cells
abbrev HasCells : ℕ → List NodeShape → Type 0
HasCells fields front = end_words (last_node front) front fields ≡ slots_of front * fields

-- the formula, of the nodes after those of a segment that is still open, with so many nodes before the segment
abbrev IsCounted : Shape → List Coord → (copies before number : ℕ) (front nodes : List NodeShape) → Type 0
IsCounted shape written copies before number front nodes =
    segments_used shape written copies before (glue front (segments nodes)) + chunks_used shape written number nodes
    ≡ copies * mask_words 1 front + counted (need_of shape written) (length shape.fields) copies (slots_of front) number nodes

counted_end : (shape : Shape) (written : List Coord) (copies before number : ℕ) (front : List NodeShape) → HasCells (length shape.fields) front → IsCounted shape written copies before number front []
counted_end shape written copies before number front cells =
    let fields : ℕ = length shape.fields in
    let cut : segments_used shape written copies before (glue front (segments [])) ≡ segments_used shape written copies before (front ∷ []) = ap (segments_used shape written copies before) (glue_alone front) in
    let whole : segments_used shape written copies before (front ∷ []) ≡ copies * (mask_words 1 front + slots_of front * fields) + 0 = ap (λ e. copies * (mask_words 1 front + e) + 0) cells in
    let turned : copies * (mask_words 1 front + slots_of front * fields) + 0 + 0 ≡ copies * mask_words 1 front + copies * (slots_of front * fields) = omega arith in
    ap (λ w. w + 0) (cut ∙ whole) ∙ turned

-- the end of a segment after a node whose kind leaves it open
cells_push : (fields : ℕ) (front : List NodeShape) (node : NodeShape) → ((segment : List NodeShape) → end_by node.kind node segment fields ≡ slots_of segment * fields) → HasCells fields (front ++ node ∷ [])
cells_push fields front node cells =
    let segment : List NodeShape = front ++ node ∷ [] in
    ap (λ last. end_words last segment fields) (last_push front node) ∙ cells segment

-- the masks of a segment with one more node, where the segment is the first
mask_first : (front : List NodeShape) (node : NodeShape) → mask_words 1 (front ++ node ∷ []) ≡ mask_words 1 front + mask_by node.kind (slots_of front * size_of node.sizes)
mask_first front node =
    let e : 1 * slots_of front * size_of node.sizes ≡ slots_of front * size_of node.sizes = omega arith in
    mask_push 1 front node ∙ ap (λ s. mask_words 1 front + mask_by node.kind s) e

-- a node that leaves its segment open, of a kind whose own words are those of its mask
counted_open : (shape : Shape) (written : List Coord) (copies before number : ℕ) (front : List NodeShape) (node : NodeShape) (later : List NodeShape) (mask : ℕ) → mask_words 1 (front ++ node ∷ []) ≡ mask_words 1 front + mask
    → IsCounted shape written copies before (suc number) (front ++ node ∷ []) later
    → segments_used shape written copies before (glue front (put_before false node (segments later))) + (0 + chunks_used shape written (suc number) later)
    ≡ copies * mask_words 1 front + (copies * mask + 0 + counted (need_of shape written) (length shape.fields) copies (slots_of front * size_of node.sizes) (suc number) later)
counted_open shape written copies before number front node later mask masks rest =
    let needs : ℕ → NodeShape → ℕ = need_of shape written in
    let fields : ℕ = length shape.fields in
    let chunks : ℕ = chunks_used shape written (suc number) later in
    let glued = ap (segments_used shape written copies before) (glue_more front node (segments later)) in
    let turned : copies * (mask_words 1 front + mask) + counted needs fields copies (slots_of front * size_of node.sizes) (suc number) later ≡ copies * mask_words 1 front + (copies * mask + 0 + counted needs fields copies (slots_of front * size_of node.sizes) (suc number) later) = omega arith in
    ap (λ w. w + (0 + chunks)) glued
    ∙ (let e : segments_used shape written copies before (glue (front ++ node ∷ []) (segments later)) + (0 + chunks) ≡ segments_used shape written copies before (glue (front ++ node ∷ []) (segments later)) + chunks = omega arith in e)
    ∙ rest
    ∙ ap (λ m. copies * m + counted needs fields copies (slots_of (front ++ node ∷ [])) (suc number) later) masks
    ∙ ap (λ s. copies * (mask_words 1 front + mask) + counted needs fields copies s (suc number) later) (slots_push front node)
    ∙ turned

-- a node that ends its segment with these words
counted_ends : (shape : Shape) (written : List Coord) (copies before number : ℕ) (front : List NodeShape) (node : NodeShape) (later : List NodeShape) (own : ℕ) → number ≡ before + length (front ++ node ∷ [])
    → mask_words 1 (front ++ node ∷ []) ≡ mask_words 1 front + 0 → end_words (Some node) (front ++ node ∷ []) (length shape.fields) ≡ own
    → IsCounted shape written (need_of shape written number node) (before + length (front ++ node ∷ [])) (suc number) [] later
    → segments_used shape written copies before (glue front (put_before true node (segments later))) + (0 + chunks_used shape written (suc number) later)
    ≡ copies * mask_words 1 front + (copies * own + 0 + counted (need_of shape written) (length shape.fields) (need_of shape written number node) 1 (suc number) later)
counted_ends shape written copies before number front node later own place masks end rest =
    let needs : ℕ → NodeShape → ℕ = need_of shape written in
    let fields : ℕ = length shape.fields in
    let segment : List NodeShape = front ++ node ∷ [] in
    let past : ℕ = before + length segment in
    let next : ℕ = need_of shape written number node in
    let last = last_push front node in
    let here : copy_words fields segment ≡ mask_words 1 front + 0 + own = ap (λ m. m + end_words (last_node segment) segment fields) masks ∙ ap (λ n. mask_words 1 front + 0 + end_words n segment fields) last ∙ ap (λ e. mask_words 1 front + 0 + e) end in
    let copied : copies_used shape written past (last_node segment) ≡ next = ap (copies_used shape written past) last ∙ ap (λ n. need_of shape written n node) (sym place) in
    let others : segments_used shape written next past (segments later) + chunks_used shape written (suc number) later ≡ next * 0 + counted needs fields next 1 (suc number) later = ap (λ cut. segments_used shape written next past cut + chunks_used shape written (suc number) later) (sym (glue_none later)) ∙ rest in
    let turned : copies * (mask_words 1 front + 0 + own) + segments_used shape written next past (segments later) + (0 + chunks_used shape written (suc number) later) ≡ copies * mask_words 1 front + (copies * own + 0 + counted needs fields next 1 (suc number) later) = omega (arith, others) in
    ap (λ w. segments_used shape written copies before w + (0 + chunks_used shape written (suc number) later)) (glue_end front node (segments later))
    ∙ ap (λ w. copies * w + segments_used shape written (copies_used shape written past (last_node segment)) past (segments later) + (0 + chunks_used shape written (suc number) later)) here
    ∙ ap (λ k. copies * (mask_words 1 front + 0 + own) + segments_used shape written k past (segments later) + (0 + chunks_used shape written (suc number) later)) copied
    ∙ turned

-- a dynamic node, which is the last
counted_dynamic : (shape : Shape) (written : List Coord) (copies before number : ℕ) (front : List NodeShape) (node : NodeShape) (chunks : ℕ) → mask_words 1 (front ++ node ∷ []) ≡ mask_words 1 front + 0 → end_words (Some node) (front ++ node ∷ []) (length shape.fields) ≡ 2 * slots_of front
    → segments_used shape written copies before (glue front (put_before false node (segments []))) + (chunks + chunks_used shape written (suc number) [])
    ≡ copies * mask_words 1 front + (copies * (2 * slots_of front) + chunks + counted (need_of shape written) (length shape.fields) copies 0 (suc number) [])
counted_dynamic shape written copies before number front node chunks masks end =
    let fields : ℕ = length shape.fields in
    let segment : List NodeShape = front ++ node ∷ [] in
    let last = last_push front node in
    let here : copy_words fields segment ≡ mask_words 1 front + 0 + 2 * slots_of front = ap (λ m. m + end_words (last_node segment) segment fields) masks ∙ ap (λ n. mask_words 1 front + 0 + end_words n segment fields) last ∙ ap (λ e. mask_words 1 front + 0 + e) end in
    let turned : copies * (mask_words 1 front + 0 + 2 * slots_of front) + 0 + (chunks + 0) ≡ copies * mask_words 1 front + (copies * (2 * slots_of front) + chunks + copies * (0 * fields)) = omega arith in
    ap (λ w. segments_used shape written copies before w + (chunks + 0)) (glue_more front node (segments []) ∙ glue_alone segment)
    ∙ ap (λ w. copies * w + 0 + (chunks + 0)) here
    ∙ turned

-- each kind of node
counted_kind : (kind : Kind) (shape : Shape) (written : List Coord) (copies before number : ℕ) (front : List NodeShape) (node : NodeShape) (later : List NodeShape) → node.kind ≡ kind → has_good_order kind number later ≡ true
    → number ≡ before + length (front ++ node ∷ [])
    → (HasCells (length shape.fields) (front ++ node ∷ []) → IsCounted shape written copies before (suc number) (front ++ node ∷ []) later)
    → IsCounted shape written (need_of shape written number node) (before + length (front ++ node ∷ [])) (suc number) [] later
    → segments_used shape written copies before (glue front (put_before (ends_segment kind) node (segments later))) + (chunks_by_need kind shape written number node + chunks_used shape written (suc number) later)
    ≡ copies * mask_words 1 front + (copies * own_words kind node (slots_of front) (slots_of front * size_of node.sizes) + chunks_for kind node (need_of shape written number node) (length shape.fields)
    + counted (need_of shape written) (length shape.fields) (copies_next kind (need_of shape written number node) copies) (slots_next kind (slots_of front * size_of node.sizes)) (suc number) later)
counted_kind Dense shape written copies before number front node later is stands place rest others =
    let masks = mask_first front node ∙ ap (λ k. mask_words 1 front + mask_by k (slots_of front * size_of node.sizes)) is in
    counted_open shape written copies before number front node later 0 masks (rest (cells_push (length shape.fields) front node (λ segment. ap (λ k. end_by k node segment (length shape.fields)) is)))
counted_kind Bitmasked shape written copies before number front node later is stands place rest others =
    let masks = mask_first front node ∙ ap (λ k. mask_words 1 front + mask_by k (slots_of front * size_of node.sizes)) is in
    counted_open shape written copies before number front node later (div_ceil (slots_of front * size_of node.sizes) 64) masks (rest (cells_push (length shape.fields) front node (λ segment. ap (λ k. end_by k node segment (length shape.fields)) is)))
counted_kind Pointer shape written copies before number front node later is stands place rest others =
    let masks = mask_first front node ∙ ap (λ k. mask_words 1 front + mask_by k (slots_of front * size_of node.sizes)) is in
    let end = ap (λ k. end_by k node (front ++ node ∷ []) (length shape.fields)) is ∙ slots_push front node in
    counted_ends shape written copies before number front node later (slots_of front * size_of node.sizes) place masks end others
counted_kind Hash shape written copies before number front node later is stands place rest others =
    let masks = mask_first front node ∙ ap (λ k. mask_words 1 front + mask_by k (slots_of front * size_of node.sizes)) is in
    let end = ap (λ k. end_by k node (front ++ node ∷ []) (length shape.fields)) is in
    counted_ends shape written copies before number front node later (2 * power_for (2 * count_of node.cap)) place masks end others
counted_kind Dynamic shape written copies before number front node [] is stands place rest others =
    let masks = mask_first front node ∙ ap (λ k. mask_words 1 front + mask_by k (slots_of front * size_of node.sizes)) is in
    let end = ap (λ k. end_by k node (front ++ node ∷ []) (length shape.fields)) is ∙ ap (λ xs. 2 * slots_of xs) (before_last front node) in
    counted_dynamic shape written copies before number front node (chunks_for Dynamic node (need_of shape written number node) (length shape.fields)) masks end
counted_kind Dynamic shape written copies before number front node (next ∷ later) is stands place rest others = cc

counted_from : (shape : Shape) (written : List Coord) (axes copies before number : ℕ) (front nodes : List NodeShape) → first_node_fault axes number nodes ≡ None → number ≡ suc (before + length front)
    → HasCells (length shape.fields) front → IsCounted shape written copies before number front nodes
counted_from shape written axes copies before number front [] none place cells = counted_end shape written copies before number front cells
counted_from shape written axes copies before number front (node ∷ later) none place cells =
    let rest = faultless_tail axes number node later none in
    let long = length_push front node in
    let past : number ≡ before + length (front ++ node ∷ []) = omega (arith, place, long) in
    counted_kind node.kind shape written copies before number front node later refl (faultless_head axes number node later none).order past
    (λ has. counted_from shape written axes copies before (suc number) (front ++ node ∷ []) later rest (omega (arith, past)) has)
    (counted_from shape written axes (need_of shape written number node) (before + length (front ++ node ∷ [])) (suc number) [] later rest (omega (arith, past)) refl)

pub counted_is : (shape : Shape) (written : List Coord) → first_node_fault shape.axes 1 shape.nodes ≡ None → used_words shape written ≡ counted (need_of shape written) (length shape.fields) 1 1 1 shape.nodes
counted_is shape written none =
    ap (λ cut. segments_used shape written 1 0 cut + chunks_used shape written 1 shape.nodes) (sym (glue_none shape.nodes))
    ∙ counted_from shape written shape.axes 1 0 1 [] shape.nodes none refl refl
    ∙ (let e : 1 * 0 + counted (need_of shape written) (length shape.fields) 1 1 1 shape.nodes ≡ counted (need_of shape written) (length shape.fields) 1 1 1 shape.nodes = omega arith in e)

-- needs that agree for each node count the same
pub counted_same : (needs others : ℕ → NodeShape → ℕ) (fields copies before number : ℕ) (nodes : List NodeShape)
    → ((j : ℕ) (node : NodeShape) → slice_get nodes j ≡ Some node → needs (number + j) node ≡ others (number + j) node)
    → counted needs fields copies before number nodes ≡ counted others fields copies before number nodes
counted_same needs others fields copies before number [] agree = refl
counted_same needs others fields copies before number (node ∷ later) agree =
    let none : number + 0 ≡ number = omega arith in
    let here : needs number node ≡ others number node = ap (λ n. needs n node) (sym none) ∙ agree 0 node refl ∙ ap (λ n. others n node) none in
    let step : ℕ → ℕ = λ need. copies * own_words node.kind node before (before * size_of node.sizes) + chunks_for node.kind node need fields
    + counted needs fields (copies_next node.kind need copies) (slots_next node.kind (before * size_of node.sizes)) (suc number) later in
    ap step here
    ∙ ap (λ rest. copies * own_words node.kind node before (before * size_of node.sizes) + chunks_for node.kind node (others number node) fields + rest)
    (counted_same needs others fields (copies_next node.kind (others number node) copies) (slots_next node.kind (before * size_of node.sizes)) (suc number) later
    (λ j next at. let on : suc number + j ≡ number + suc j = omega arith in ap (λ n. needs n next) on ∙ agree (suc j) next at ∙ ap (λ n. others n next) (sym on)))
