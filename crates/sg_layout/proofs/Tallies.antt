-- What the loop that counts storage words keeps: what it has, and what is left, make the whole; and nothing is too large.
use Rattle.std.proofs.Common.{◌≡◌, ℕ, suc, ◌+◌, ◌*◌, ◌^◌, ◌<◌, ◌≤◌, true, None, List, [], ◌∷◌, length, get_or, drop, sym, ap, ◌∙◌, subst, arith}
use Rattle.std.proofs.lemmas.Nat.{mul-le}
use Rattle.std.proofs.lemmas.List.{drop_more}
use Rattle.sg_layout.specs.declared.shape.Kind.{Kind}
use Rattle.sg_layout.specs.declared.shape.Kind.TheVariants.{Dense, Bitmasked, Pointer, Hash, Dynamic}
use Rattle.sg_layout.specs.declared.shape.NodeShape.{NodeShape}
use Rattle.sg_layout.specs.declared.shape.Shape.{Shape}
use Rattle.sg_layout.specs.Axes.{count_of, size_of, slots_of}
use Rattle.sg_layout.specs.Rules.{has_good_extents, has_good_caps, first_node_fault}
use Rattle.sg_layout.specs.StorageWords.{chunks_by}
use Rattle.sg_layout.specs.steps.WordSteps.{own_words, copies_next, slots_next, counted}
use Rattle.sg_layout.proofs.Caps.{cap_range, dynamic_cap, dynamic_chunk}
use Rattle.sg_layout.proofs.Keeping.{faultless_head, faultless_tail}
use Rattle.sg_layout.proofs.Faultless.{size_some, slots_some, no_fault, slots_few, counts_declared}
use Rattle.sg_layout.specs.Accepted.{IsAccepted}
use Rattle.sg_layout.proofs.Counting.{power_most}

-- what each kind of node adds is small
own_most : (kind : Kind) (node : NodeShape) (before slots : ℕ) → has_good_caps kind node ≡ true → before ≤ 2 ^ 30 → slots ≤ 2 ^ 30 → own_words kind node before slots ≤ 2 ^ 31
own_most Dense node before slots good few some = omega arith
own_most Bitmasked node before slots good few some = omega arith
own_most Pointer node before slots good few some = omega arith
own_most Hash node before slots good few some = (let p = power_most (2 * count_of node.cap) in omega arith)
own_most Dynamic node before slots good few some = omega arith

chunks_most : (kind : Kind) (node : NodeShape) (fields : ℕ) → has_good_caps kind node ≡ true → size_of node.sizes ≤ 2 ^ 30 → fields ≤ 16 → chunks_by kind node fields ≤ 2 ^ 52
chunks_most Dense node fields good small few = omega arith
chunks_most Bitmasked node fields good small few = omega arith
chunks_most Pointer node fields good small few = omega arith
chunks_most Hash node fields good small few = omega arith
chunks_most Dynamic node fields good small few =
    let chunk = (dynamic_chunk node good).1 in
    let values = mul-le (count_of node.chunk) fields (2 ^ 30) 16 (omega arith) few in
    let all = mul-le (count_of node.cap) (count_of node.chunk * fields + 1) (2 ^ 16) (2 ^ 34 + 1) (dynamic_cap node good) (omega arith) in
    omega arith

copies_most : (kind : Kind) (node : NodeShape) (copies : ℕ) → has_good_caps kind node ≡ true → copies ≤ 65553 → copies_next kind node copies ≤ 65553
copies_most Dense node copies good few = few
copies_most Bitmasked node copies good few = few
copies_most Pointer node copies good few = (let range = cap_range node.cap good in omega arith)
copies_most Hash node copies good few = (let range = cap_range node.cap good in omega arith)
copies_most Dynamic node copies good few = few

slots_most : (kind : Kind) (slots rest : ℕ) → rest ≤ 2 ^ 30 → slots * rest ≤ 2 ^ 30 → slots ≤ 2 ^ 30 → (slots_next kind slots ≤ 2 ^ 30) × (slots_next kind slots * rest ≤ 2 ^ 30)
slots_most Dense slots rest few all some = (some, all)
slots_most Bitmasked slots rest few all some = (some, all)
slots_most Pointer slots rest few all some = (omega arith, omega arith)
slots_most Hash slots rest few all some = (omega arith, omega arith)
slots_most Dynamic slots rest few all some = (omega arith, omega arith)

-- the state of the count before these nodes
pub record IsTally (axes number fields copies before : ℕ) (nodes : List NodeShape) : Type 0 where
  pub none : first_node_fault axes number nodes ≡ None
  pub few_fields : fields ≤ 16
  pub few_copies : copies ≤ 65553
  pub few_before : before ≤ 2 ^ 30
  pub few_slots : before * slots_of nodes ≤ 2 ^ 30
  pub few_rest : slots_of nodes ≤ 2 ^ 30

-- what is known of the next node
pub record IsNext (fields copies before : ℕ) (node : NodeShape) : Type 0 where
  pub extents : has_good_extents node ≡ true
  pub caps : has_good_caps node.kind node ≡ true
  pub size : size_of node.sizes ≤ 2 ^ 30
  pub slots : before * size_of node.sizes ≤ 2 ^ 30
  pub own : copies * own_words node.kind node before (before * size_of node.sizes) ≤ 2 ^ 52
  pub chunks : chunks_by node.kind node fields ≤ 2 ^ 52

pub tally_next : (axes number fields copies before : ℕ) (node : NodeShape) (later : List NodeShape) → IsTally axes number fields copies before (node ∷ later) → IsNext fields copies before node
tally_next axes number fields copies before node later tally =
    let good = faultless_head axes number node later tally.none in
    let rest : 1 ≤ slots_of later = slots_some axes (suc number) later (faultless_tail axes number node later tally.none) in
    let size : size_of node.sizes * 1 ≤ size_of node.sizes * slots_of later = mul-le (size_of node.sizes) 1 (size_of node.sizes) (slots_of later) (omega arith) rest in
    let turned : before * size_of node.sizes * slots_of later ≡ before * (size_of node.sizes * slots_of later) = omega arith in
    let slots : before * size_of node.sizes * 1 ≤ before * size_of node.sizes * slots_of later = mul-le (before * size_of node.sizes) 1 (before * size_of node.sizes) (slots_of later) (omega arith) rest in
    let few : before * size_of node.sizes ≤ 2 ^ 30 = omega (arith, tally.few_slots) in
    let small : size_of node.sizes ≤ 2 ^ 30 = omega (arith, tally.few_rest) in
    let own = mul-le copies (own_words node.kind node before (before * size_of node.sizes)) 65553 (2 ^ 31) tally.few_copies (own_most node.kind node before (before * size_of node.sizes) good.caps tally.few_before few) in
    record {
      extents = good.extents;
      caps = good.caps;
      size = small;
      slots = few;
      own = omega arith;
      chunks = chunks_most node.kind node fields good.caps small tally.few_fields;
    }

pub tally_step : (axes number fields copies before : ℕ) (node : NodeShape) (later : List NodeShape) → IsTally axes number fields copies before (node ∷ later) → IsTally axes (suc number) fields (copies_next node.kind node copies) (slots_next node.kind (before * size_of node.sizes)) later
tally_step axes number fields copies before node later tally =
    let next = tally_next axes number fields copies before node later tally in
    let some : 1 ≤ size_of node.sizes = size_some node.sizes next.extents in
    let rest : 1 * slots_of later ≤ size_of node.sizes * slots_of later = mul-le 1 (slots_of later) (size_of node.sizes) (slots_of later) some (omega arith) in
    let few : slots_of later ≤ 2 ^ 30 = omega (arith, tally.few_rest) in
    let turned : before * size_of node.sizes * slots_of later ≡ before * (size_of node.sizes * slots_of later) = omega arith in
    let most = slots_most node.kind (before * size_of node.sizes) (slots_of later) few (omega (arith, tally.few_slots)) next.slots in
    record {
      none = faultless_tail axes number node later tally.none;
      few_fields = tally.few_fields;
      few_copies = copies_most node.kind node copies next.caps tally.few_copies;
      few_before = most.0;
      few_slots = most.1;
      few_rest = few;
    }

-- the words of what is left, with at most 2 ^ 53 for each node and as many for the cells
pub tally_most : (axes number fields copies before : ℕ) (nodes : List NodeShape) → IsTally axes number fields copies before nodes → counted fields copies before nodes ≤ 2 ^ 53 + length nodes * 2 ^ 53
tally_most axes number fields copies before [] tally =
    let cells = mul-le before fields (2 ^ 30) 16 tally.few_before tally.few_fields in
    let all = mul-le copies (before * fields) 65553 (2 ^ 34) tally.few_copies (omega arith) in
    omega arith
tally_most axes number fields copies before (node ∷ later) tally =
    let next = tally_next axes number fields copies before node later tally in
    let rest = tally_most axes (suc number) fields (copies_next node.kind node copies) (slots_next node.kind (before * size_of node.sizes)) later (tally_step axes number fields copies before node later tally) in
    omega (arith, next.own, next.chunks)

-- the cells, once all nodes are counted
pub tally_cells : (axes number fields copies before : ℕ) (nodes : List NodeShape) → IsTally axes number fields copies before nodes → (before * fields ≤ 2 ^ 34) × (copies * (before * fields) ≤ 2 ^ 52)
tally_cells axes number fields copies before nodes tally =
    let cells = mul-le before fields (2 ^ 30) 16 tally.few_before tally.few_fields in
    let few : before * fields ≤ 2 ^ 34 = omega arith in
    let all = mul-le copies (before * fields) 65553 (2 ^ 34) tally.few_copies few in
    (few, omega arith)

-- a turn of the loop: what is known of the node, and the state after it
pub tally_turn : (axes i fields copies before words total : ℕ) (nodes : List NodeShape) (node : NodeShape) → i < length nodes → node ≡ get_or nodes i node → words + counted fields copies before (drop i nodes) ≡ total → IsTally axes (i + 1) fields copies before (drop i nodes) → IsNext fields copies before node × (words + (copies * own_words node.kind node before (before * size_of node.sizes) + chunks_by node.kind node fields) + counted fields (copies_next node.kind node copies) (slots_next node.kind (before * size_of node.sizes)) (drop (i + 1) nodes) ≡ total) × IsTally axes (i + 1 + 1) fields (copies_next node.kind node copies) (slots_next node.kind (before * size_of node.sizes)) (drop (i + 1) nodes)
tally_turn axes i fields copies before words total nodes node below here whole tally =
    let later : List NodeShape = drop (i + 1) nodes in
    let split : drop i nodes ≡ node ∷ later = drop_more nodes i node below ∙ ap (λ x. x ∷ later) (sym here) in
    let now : IsTally axes (i + 1) fields copies before (node ∷ later) = subst (λ xs. IsTally axes (i + 1) fields copies before xs) split tally in
    let all : words + counted fields copies before (node ∷ later) ≡ total = ap (λ xs. words + counted fields copies before xs) (sym split) ∙ whole in
    let own : ℕ = copies * own_words node.kind node before (before * size_of node.sizes) + chunks_by node.kind node fields in
    let rest : ℕ = counted fields (copies_next node.kind node copies) (slots_next node.kind (before * size_of node.sizes)) later in
    let turned : words + own + rest ≡ words + (own + rest) = omega arith in
    let number : suc (i + 1) ≡ i + 1 + 1 = omega arith in (
      tally_next axes (i + 1) fields copies before node later now,
      turned ∙ all,
      subst (λ n. IsTally axes n fields (copies_next node.kind node copies) (slots_next node.kind (before * size_of node.sizes)) later) number (tally_step axes (i + 1) fields copies before node later now),
    )

-- the state at the start, for an accepted shape
pub tally_start : (shape : Shape) → IsAccepted shape → IsTally shape.axes 1 (length shape.fields) 1 1 shape.nodes
tally_start shape accepted =
    let slots = slots_few shape accepted in
    record {
      none = no_fault shape accepted;
      few_fields = (counts_declared shape accepted.declared).1;
      few_copies = omega arith;
      few_before = omega arith;
      few_slots = omega arith;
      few_rest = slots;
    }

pub total_most : (shape : Shape) → IsAccepted shape → counted (length shape.fields) 1 1 shape.nodes ≤ 2 ^ 56
total_most shape accepted =
    let all = tally_most shape.axes 1 (length shape.fields) 1 1 shape.nodes (tally_start shape accepted) in
    let few = (counts_declared shape accepted.declared).0 in
    omega arith
