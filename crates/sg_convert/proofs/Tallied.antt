-- What the loop that counts used words keeps: what it has, and what is left, make the whole; and nothing is too large.
use Rattle.std.proofs.Common.{◌≡◌, ℕ, suc, ◌+◌, ◌*◌, ◌^◌, ◌<◌, ◌≤◌, true, ltb, leb, ◌&&◌, ℤ, None, Some, List, [], ◌∷◌, length, get_or, drop, refl, sym, ap, ◌∙◌, subst, arith}
use Rattle.std.specs.Prelude.{slice_get}
use Rattle.std.proofs.lemmas.Bool.{and_parts, ltb-true, leb-true}
use Rattle.std.proofs.lemmas.Nat.{mul-le}
use Rattle.std.proofs.lemmas.List.{drop_more}
use Rattle.sg_layout.specs.declared.shape.Kind.{Kind}
use Rattle.sg_layout.specs.declared.shape.Kind.TheVariants.{Dense, Bitmasked, Pointer, Hash, Dynamic}
use Rattle.sg_layout.specs.declared.shape.NodeShape.{NodeShape}
use Rattle.sg_layout.specs.declared.shape.Shape.{Shape}
use Rattle.sg_layout.specs.Axes.{count_of, size_of, slots_of}
use Rattle.sg_layout.specs.Accepted.{IsAccepted}
use Rattle.sg_layout.specs.Rules.{is_cap, has_good_caps, first_node_fault}
use Rattle.sg_layout.proofs.Uses.{faultless_head, faultless_tail, size_some, slots_some, no_fault, slots_few, counts_declared}
use Rattle.sg_convert.specs.steps.Counting.{own_words, chunks_for, copies_next, slots_next, counted}
use Rattle.sg_convert.proofs.Counted.{power_most}

-- ── Caps and chunks ──

pub cap_range : (cap : ℤ) → is_cap cap ≡ true → (1 ≤ count_of cap) × (count_of cap ≤ 65536)
cap_range cap good =
    let parts = and_parts (ltb 0 (count_of cap)) (leb (count_of cap) 65536) good in
    let low = ltb-true 0 (count_of cap) parts.0 in
    (omega arith, leb-true (count_of cap) 65536 parts.1)

pub dynamic_cap : (node : NodeShape) → has_good_caps Dynamic node ≡ true → count_of node.cap ≤ 65536
dynamic_cap node good =
    let parts = and_parts (is_cap node.cap) (ltb 0 (count_of node.chunk) && leb (count_of node.chunk) (size_of node.sizes)) good in
    (cap_range node.cap parts.0).1

pub dynamic_chunk : (node : NodeShape) → has_good_caps Dynamic node ≡ true → (1 ≤ count_of node.chunk) × (count_of node.chunk ≤ size_of node.sizes)
dynamic_chunk node good =
    let parts = and_parts (is_cap node.cap) (ltb 0 (count_of node.chunk) && leb (count_of node.chunk) (size_of node.sizes)) good in
    let chunk = and_parts (ltb 0 (count_of node.chunk)) (leb (count_of node.chunk) (size_of node.sizes)) parts.1 in
    let low = ltb-true 0 (count_of node.chunk) chunk.0 in
    (omega arith, leb-true (count_of node.chunk) (size_of node.sizes) chunk.1)

-- ── What each kind of node adds is small ──

own_most : (kind : Kind) (node : NodeShape) (before slots : ℕ) → before ≤ 2 ^ 30 → slots ≤ 2 ^ 30 → own_words kind node before slots ≤ 2 ^ 31
own_most Dense node before slots few some = omega arith
own_most Bitmasked node before slots few some = omega arith
own_most Pointer node before slots few some = omega arith
own_most Hash node before slots few some = (let p = power_most (2 * count_of node.cap) in omega arith)
own_most Dynamic node before slots few some = omega arith

chunks_most : (kind : Kind) (node : NodeShape) (need fields : ℕ) → has_good_caps kind node ≡ true → size_of node.sizes ≤ 2 ^ 30 → need ≤ 65536 → fields ≤ 16 → chunks_for kind node need fields ≤ 2 ^ 52
chunks_most Dense node need fields good small needed few = omega arith
chunks_most Bitmasked node need fields good small needed few = omega arith
chunks_most Pointer node need fields good small needed few = omega arith
chunks_most Hash node need fields good small needed few = omega arith
chunks_most Dynamic node need fields good small needed few =
    let chunk = (dynamic_chunk node good).1 in
    let values = mul-le (count_of node.chunk) fields (2 ^ 30) 16 (omega arith) few in
    let all = mul-le need (count_of node.chunk * fields + 1) (2 ^ 16) (2 ^ 34 + 1) (omega arith) (omega arith) in
    omega arith

copies_most : (kind : Kind) (need copies : ℕ) → need ≤ 65536 → copies ≤ 65536 → copies_next kind need copies ≤ 65536
copies_most Dense need copies needed few = few
copies_most Bitmasked need copies needed few = few
copies_most Pointer need copies needed few = needed
copies_most Hash need copies needed few = needed
copies_most Dynamic need copies needed few = few

slots_most : (kind : Kind) (slots rest : ℕ) → rest ≤ 2 ^ 30 → slots * rest ≤ 2 ^ 30 → slots ≤ 2 ^ 30 → (slots_next kind slots ≤ 2 ^ 30) × (slots_next kind slots * rest ≤ 2 ^ 30)
slots_most Dense slots rest few all some = (some, all)
slots_most Bitmasked slots rest few all some = (some, all)
slots_most Pointer slots rest few all some = (omega arith, omega arith)
slots_most Hash slots rest few all some = (omega arith, omega arith)
slots_most Dynamic slots rest few all some = (omega arith, omega arith)

-- ── The state of the count ──

-- before these nodes, with what each of them needs
pub record IsTally (axes number fields copies before : ℕ) (nodes : List NodeShape) : Type 0 where
  pub none : first_node_fault axes number nodes ≡ None
  pub few_fields : fields ≤ 16
  pub few_copies : copies ≤ 65536
  pub few_before : before ≤ 2 ^ 30
  pub few_slots : before * slots_of nodes ≤ 2 ^ 30
  pub few_rest : slots_of nodes ≤ 2 ^ 30

-- what is known of the next node
pub record IsNext (fields copies before : ℕ) (node : NodeShape) (need : ℕ) : Type 0 where
  pub caps : has_good_caps node.kind node ≡ true
  pub size : size_of node.sizes ≤ 2 ^ 30
  pub slots : before * size_of node.sizes ≤ 2 ^ 30
  pub own : copies * own_words node.kind node before (before * size_of node.sizes) ≤ 2 ^ 52
  pub chunks : chunks_for node.kind node need fields ≤ 2 ^ 52

tally_next : (axes number fields copies before : ℕ) (node : NodeShape) (later : List NodeShape) (need : ℕ) → need ≤ 65536 → IsTally axes number fields copies before (node ∷ later) → IsNext fields copies before node need
tally_next axes number fields copies before node later need needed tally =
    let good = faultless_head axes number node later tally.none in
    let rest : 1 ≤ slots_of later = slots_some axes (suc number) later (faultless_tail axes number node later tally.none) in
    let size : size_of node.sizes * 1 ≤ size_of node.sizes * slots_of later = mul-le (size_of node.sizes) 1 (size_of node.sizes) (slots_of later) (omega arith) rest in
    let turned : before * size_of node.sizes * slots_of later ≡ before * (size_of node.sizes * slots_of later) = omega arith in
    let slots : before * size_of node.sizes * 1 ≤ before * size_of node.sizes * slots_of later = mul-le (before * size_of node.sizes) 1 (before * size_of node.sizes) (slots_of later) (omega arith) rest in
    let few : before * size_of node.sizes ≤ 2 ^ 30 = omega (arith, tally.few_slots) in
    let small : size_of node.sizes ≤ 2 ^ 30 = omega (arith, tally.few_rest) in
    let own = mul-le copies (own_words node.kind node before (before * size_of node.sizes)) 65536 (2 ^ 31) tally.few_copies (own_most node.kind node before (before * size_of node.sizes) tally.few_before few) in
    record {
      caps = good.caps;
      size = small;
      slots = few;
      own = omega arith;
      chunks = chunks_most node.kind node need fields good.caps small needed tally.few_fields;
    }

tally_step : (axes number fields copies before : ℕ) (node : NodeShape) (later : List NodeShape) (need : ℕ) → need ≤ 65536 → IsTally axes number fields copies before (node ∷ later) → IsTally axes (suc number) fields (copies_next node.kind need copies) (slots_next node.kind (before * size_of node.sizes)) later
tally_step axes number fields copies before node later need needed tally =
    let next = tally_next axes number fields copies before node later need needed tally in
    let some : 1 ≤ size_of node.sizes = size_some node.sizes (faultless_head axes number node later tally.none).extents in
    let rest : 1 * slots_of later ≤ size_of node.sizes * slots_of later = mul-le 1 (slots_of later) (size_of node.sizes) (slots_of later) some (omega arith) in
    let few : slots_of later ≤ 2 ^ 30 = omega (arith, tally.few_rest) in
    let turned : before * size_of node.sizes * slots_of later ≡ before * (size_of node.sizes * slots_of later) = omega arith in
    let most = slots_most node.kind (before * size_of node.sizes) (slots_of later) few (omega (arith, tally.few_slots)) next.slots in
    record {
      none = faultless_tail axes number node later tally.none;
      few_fields = tally.few_fields;
      few_copies = copies_most node.kind need copies needed tally.few_copies;
      few_before = most.0;
      few_slots = most.1;
      few_rest = few;
    }

-- the cells, once all nodes are counted
pub tally_cells : (axes number fields copies before : ℕ) (nodes : List NodeShape) → IsTally axes number fields copies before nodes → (before * fields ≤ 2 ^ 34) × (copies * (before * fields) ≤ 2 ^ 52)
tally_cells axes number fields copies before nodes tally =
    let cells = mul-le before fields (2 ^ 30) 16 tally.few_before tally.few_fields in
    let few : before * fields ≤ 2 ^ 34 = omega arith in
    let all = mul-le copies (before * fields) 65536 (2 ^ 34) tally.few_copies few in
    (few, omega arith)

-- a turn of the loop at a node with a need: what is known of the node, and the state after it
pub record IsTurn (needs : ℕ → NodeShape → ℕ) (axes i fields copies before words total : ℕ) (nodes : List NodeShape) (node : NodeShape) : Type 0 where
  pub next : IsNext fields copies before node (needs (i + 1) node)
  pub counted : words + (copies * own_words node.kind node before (before * size_of node.sizes) + chunks_for node.kind node (needs (i + 1) node) fields)
      + counted needs fields (copies_next node.kind (needs (i + 1) node) copies) (slots_next node.kind (before * size_of node.sizes)) (i + 1 + 1) (drop (i + 1) nodes) ≡ total
  pub tally : IsTally axes (i + 1 + 1) fields (copies_next node.kind (needs (i + 1) node) copies) (slots_next node.kind (before * size_of node.sizes)) (drop (i + 1) nodes)
  pub split : drop i nodes ≡ node ∷ drop (i + 1) nodes

pub tally_turn : (needs : ℕ → NodeShape → ℕ) (axes i fields copies before words total : ℕ) (nodes : List NodeShape) (node : NodeShape) → i < length nodes → node ≡ get_or nodes i node → needs (i + 1) node ≤ 65536
    → words + counted needs fields copies before (i + 1) (drop i nodes) ≡ total → IsTally axes (i + 1) fields copies before (drop i nodes) → IsTurn needs axes i fields copies before words total nodes node
tally_turn needs axes i fields copies before words total nodes node below here needed whole tally =
    let later : List NodeShape = drop (i + 1) nodes in
    let need : ℕ = needs (i + 1) node in
    let split : drop i nodes ≡ node ∷ later = drop_more nodes i node below ∙ ap (λ x. x ∷ later) (sym here) in
    let now : IsTally axes (i + 1) fields copies before (node ∷ later) = subst (λ xs. IsTally axes (i + 1) fields copies before xs) split tally in
    let number : suc (i + 1) ≡ i + 1 + 1 = omega arith in
    let all : words + counted needs fields copies before (i + 1) (node ∷ later) ≡ total = ap (λ xs. words + counted needs fields copies before (i + 1) xs) (sym split) ∙ whole in
    let own : ℕ = copies * own_words node.kind node before (before * size_of node.sizes) + chunks_for node.kind node need fields in
    let left : ℕ → ℕ = λ n. counted needs fields (copies_next node.kind need copies) (slots_next node.kind (before * size_of node.sizes)) n later in
    let turned : words + own + left (i + 1 + 1) ≡ words + (own + left (i + 1 + 1)) = omega arith in
    record {
      next = tally_next axes (i + 1) fields copies before node later need needed now;
      counted = turned ∙ ap (λ n. words + (own + left n)) (sym number) ∙ all;
      tally = subst (λ n. IsTally axes n fields (copies_next node.kind need copies) (slots_next node.kind (before * size_of node.sizes)) later) number (tally_step axes (i + 1) fields copies before node later need needed now);
      split = split;
    }

-- the state at the start, for an accepted shape
pub tally_start : (shape : Shape) → IsAccepted shape → IsTally shape.axes 1 (length shape.fields) 1 1 shape.nodes
tally_start shape accepted =
    let slots = slots_few shape accepted in
    record {
      none = no_fault shape accepted;
      few_fields = (counts_declared shape accepted.declared).1;
      few_copies = omega arith;
      few_before = omega arith;
      few_slots = omega arith;
      few_rest = slots;
    }

-- ── The whole is small ──

-- the words of what is left, with at most 2 ^ 53 for each node and as many for the cells
tally_most : (needs : ℕ → NodeShape → ℕ) (axes number fields copies before : ℕ) (nodes : List NodeShape) → ((j : ℕ) (node : NodeShape) → slice_get nodes j ≡ Some node → needs (number + j) node ≤ 65536) → IsTally axes number fields copies before nodes
    → counted needs fields copies before number nodes ≤ 2 ^ 53 + length nodes * 2 ^ 53
tally_most needs axes number fields copies before [] needed tally =
    let cells = mul-le before fields (2 ^ 30) 16 tally.few_before tally.few_fields in
    let all = mul-le copies (before * fields) 65536 (2 ^ 34) tally.few_copies (omega arith) in
    omega arith
tally_most needs axes number fields copies before (node ∷ later) needed tally =
    let none : number + 0 ≡ number = omega arith in
    let here : needs number node ≤ 65536 = subst (λ n. needs n node ≤ 65536) none (needed 0 node refl) in
    let next = tally_next axes number fields copies before node later (needs number node) here tally in
    let rest = tally_most needs axes (suc number) fields (copies_next node.kind (needs number node) copies) (slots_next node.kind (before * size_of node.sizes)) later
    (λ j other at. let on : number + suc j ≡ suc number + j = omega arith in subst (λ n. needs n other ≤ 65536) on (needed (suc j) other at))
    (tally_step axes number fields copies before node later (needs number node) here tally) in
    omega (arith, next.own, next.chunks)

pub total_most : (needs : ℕ → NodeShape → ℕ) (shape : Shape) → IsAccepted shape → ((j : ℕ) (node : NodeShape) → slice_get shape.nodes j ≡ Some node → needs (1 + j) node ≤ 65536)
    → counted needs (length shape.fields) 1 1 1 shape.nodes ≤ 2 ^ 56
total_most needs shape accepted needed =
    let all = tally_most needs shape.axes 1 (length shape.fields) 1 1 shape.nodes needed (tally_start shape accepted) in
    let few = (counts_declared shape accepted.declared).0 in
    omega arith
