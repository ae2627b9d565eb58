use Rattle.std.proofs.Common.{◌≡◌, ℕ, ◌+◌, ◌*◌, ◌<◌, ◌≤◌, ◌^◌, length, drop, sym, ap, ◌∙◌, arith}
use Rattle.std.specs.Prelude.{slice_index}
use Rattle.std.proofs.lemmas.List.{drop_all}
use Rattle.sg_layout.specs.declared.shape.Shape.{Shape}
use Rattle.sg_layout.specs.Axes.{size_of, sizes_of}
use Rattle.sg_layout.proofs.Uses.{size_there}
use Rattle.sg_convert.specs.steps.Counting.{own_words, chunks_for, copies_next, slots_next, live_in, counted}
use Rattle.sg_convert.proofs.Tallied.{tally_start, tally_cells, total_most}
use Rattle.sg_convert.proofs.Lives.{live_within, turn_at}
use Rattle.sg_convert.proofs.used.used_of.Goals as goal

pub loop-index-init : goal.loop-index-init
loop-index-init c =
    let store = c.args.store.now in
    let whole : ℕ = counted (live_in store) (length store.shape.fields) 1 1 1 store.shape.nodes in
    let same : 0 + whole ≡ whole = omega arith in
    (same, tally_start store.shape c.layout-layout.ensures.well_formed.accepted)

pub overflow_mul-slots : goal.overflow_mul-slots
overflow_mul-slots c =
    let store = c.args.store.now in
    let l = c.loop-index in
    let node = c.index-nodes-index.result in
    let well = c.layout-layout.ensures.well_formed in
    let same = c.as_slice-nodes.ensures ∙ ap (λ (s : Shape). s.nodes) (c.shape-shape.ensures.value ∙ c.layout-layout.ensures.layout) in
    let below : l.index < length c.as_slice-nodes.result.now = omega (arith, c.loop-index-test.true) in
    let turn = turn_at store well l.index l.copies l.before l.words _ c.as_slice-nodes.result.now node same below c.index-nodes-index.is l.invariant.0 l.invariant.1 in
    let size : c.size.result ≡ size_of node.sizes = c.size.ensures.value ∙ ap (λ (s : Shape). slice_index (sizes_of s.nodes) l.index) c.layout-layout.ensures.layout ∙ size_there store.shape.nodes l.index node (drop (l.index + 1) store.shape.nodes) turn.split in
    let slots : l.before * c.size.result ≤ 2 ^ 30 = rw size (turn.next.slots) in
    omega arith

pub own_words-requires-clause-caps : goal.own_words-requires-clause-caps
own_words-requires-clause-caps c =
    let store = c.args.store.now in
    let l = c.loop-index in
    let node = c.index-nodes-index.result in
    let well = c.layout-layout.ensures.well_formed in
    let same = c.as_slice-nodes.ensures ∙ ap (λ (s : Shape). s.nodes) (c.shape-shape.ensures.value ∙ c.layout-layout.ensures.layout) in
    let below : l.index < length c.as_slice-nodes.result.now = omega (arith, c.loop-index-test.true) in
    let turn = turn_at store well l.index l.copies l.before l.words _ c.as_slice-nodes.result.now node same below c.index-nodes-index.is l.invariant.0 l.invariant.1 in
    turn.next.caps

pub own_words-requires-clause-few : goal.own_words-requires-clause-few
own_words-requires-clause-few c =
    let store = c.args.store.now in
    let l = c.loop-index in
    let node = c.index-nodes-index.result in
    let well = c.layout-layout.ensures.well_formed in
    let same = c.as_slice-nodes.ensures ∙ ap (λ (s : Shape). s.nodes) (c.shape-shape.ensures.value ∙ c.layout-layout.ensures.layout) in
    let below : l.index < length c.as_slice-nodes.result.now = omega (arith, c.loop-index-test.true) in
    let turn = turn_at store well l.index l.copies l.before l.words _ c.as_slice-nodes.result.now node same below c.index-nodes-index.is l.invariant.0 l.invariant.1 in
    let size : c.size.result ≡ size_of node.sizes = c.size.ensures.value ∙ ap (λ (s : Shape). slice_index (sizes_of s.nodes) l.index) c.layout-layout.ensures.layout ∙ size_there store.shape.nodes l.index node (drop (l.index + 1) store.shape.nodes) turn.split in
    rw size (turn.next.slots)

pub overflow_mul-words : goal.overflow_mul-words
overflow_mul-words c =
    let store = c.args.store.now in
    let l = c.loop-index in
    let node = c.index-nodes-index.result in
    let well = c.layout-layout.ensures.well_formed in
    let same = c.as_slice-nodes.ensures ∙ ap (λ (s : Shape). s.nodes) (c.shape-shape.ensures.value ∙ c.layout-layout.ensures.layout) in
    let below : l.index < length c.as_slice-nodes.result.now = omega (arith, c.loop-index-test.true) in
    let turn = turn_at store well l.index l.copies l.before l.words _ c.as_slice-nodes.result.now node same below c.index-nodes-index.is l.invariant.0 l.invariant.1 in
    let size : c.size.result ≡ size_of node.sizes = c.size.ensures.value ∙ ap (λ (s : Shape). slice_index (sizes_of s.nodes) l.index) c.layout-layout.ensures.layout ∙ size_there store.shape.nodes l.index node (drop (l.index + 1) store.shape.nodes) turn.split in
    let own : c.own_words.result ≡ own_words node.kind node l.before (l.before * size_of node.sizes) = c.own_words.ensures ∙ ap (λ s. own_words node.kind node l.before (l.before * s)) size in
    let few : l.copies * c.own_words.result ≤ 2 ^ 52 = rw own (turn.next.own) in
    omega arith

pub chunk_words-requires-clause-caps : goal.chunk_words-requires-clause-caps
chunk_words-requires-clause-caps c =
    let store = c.args.store.now in
    let l = c.loop-index in
    let node = c.index-nodes-index.result in
    let well = c.layout-layout.ensures.well_formed in
    let same = c.as_slice-nodes.ensures ∙ ap (λ (s : Shape). s.nodes) (c.shape-shape.ensures.value ∙ c.layout-layout.ensures.layout) in
    let below : l.index < length c.as_slice-nodes.result.now = omega (arith, c.loop-index-test.true) in
    let turn = turn_at store well l.index l.copies l.before l.words _ c.as_slice-nodes.result.now node same below c.index-nodes-index.is l.invariant.0 l.invariant.1 in
    turn.next.caps

pub chunk_words-requires-clause-small : goal.chunk_words-requires-clause-small
chunk_words-requires-clause-small c =
    let store = c.args.store.now in
    let l = c.loop-index in
    let node = c.index-nodes-index.result in
    let well = c.layout-layout.ensures.well_formed in
    let same = c.as_slice-nodes.ensures ∙ ap (λ (s : Shape). s.nodes) (c.shape-shape.ensures.value ∙ c.layout-layout.ensures.layout) in
    let below : l.index < length c.as_slice-nodes.result.now = omega (arith, c.loop-index-test.true) in
    let turn = turn_at store well l.index l.copies l.before l.words _ c.as_slice-nodes.result.now node same below c.index-nodes-index.is l.invariant.0 l.invariant.1 in
    turn.next.size

pub overflow_add-words : goal.overflow_add-words
overflow_add-words c =
    let store = c.args.store.now in
    let l = c.loop-index in
    let node = c.index-nodes-index.result in
    let well = c.layout-layout.ensures.well_formed in
    let same = c.as_slice-nodes.ensures ∙ ap (λ (s : Shape). s.nodes) (c.shape-shape.ensures.value ∙ c.layout-layout.ensures.layout) in
    let below : l.index < length c.as_slice-nodes.result.now = omega (arith, c.loop-index-test.true) in
    let turn = turn_at store well l.index l.copies l.before l.words _ c.as_slice-nodes.result.now node same below c.index-nodes-index.is l.invariant.0 l.invariant.1 in
    let size : c.size.result ≡ size_of node.sizes = c.size.ensures.value ∙ ap (λ (s : Shape). slice_index (sizes_of s.nodes) l.index) c.layout-layout.ensures.layout ∙ size_there store.shape.nodes l.index node (drop (l.index + 1) store.shape.nodes) turn.split in
    let fields : c.len-fields.result ≡ length store.shape.fields = c.len-fields.ensures ∙ ap (λ (s : Shape). length s.fields) (c.shape-shape.ensures.value ∙ c.layout-layout.ensures.layout) in
    let own : c.own_words.result ≡ own_words node.kind node l.before (l.before * size_of node.sizes) = c.own_words.ensures ∙ ap (λ s. own_words node.kind node l.before (l.before * s)) size in
    let need : ℕ = live_in store (l.index + 1) node in
    let chunks : c.chunk_words.result ≡ chunks_for node.kind node need (length store.shape.fields) = c.chunk_words.ensures ∙ ap (λ n. chunks_for node.kind node n c.len-fields.result) c.live_of-need.ensures.value ∙ ap (λ f. chunks_for node.kind node need f) fields in
    let few : l.copies * c.own_words.result ≤ 2 ^ 52 = rw own (turn.next.own) in
    let few_chunks : c.chunk_words.result ≤ 2 ^ 52 = rw chunks (turn.next.chunks) in
    omega arith

pub overflow_add-words-in-loop-index : goal.overflow_add-words-in-loop-index
overflow_add-words-in-loop-index c =
    let store = c.args.store.now in
    let l = c.loop-index in
    let node = c.index-nodes-index.result in
    let well = c.layout-layout.ensures.well_formed in
    let same = c.as_slice-nodes.ensures ∙ ap (λ (s : Shape). s.nodes) (c.shape-shape.ensures.value ∙ c.layout-layout.ensures.layout) in
    let below : l.index < length c.as_slice-nodes.result.now = omega (arith, c.loop-index-test.true) in
    let turn = turn_at store well l.index l.copies l.before l.words _ c.as_slice-nodes.result.now node same below c.index-nodes-index.is l.invariant.0 l.invariant.1 in
    let size : c.size.result ≡ size_of node.sizes = c.size.ensures.value ∙ ap (λ (s : Shape). slice_index (sizes_of s.nodes) l.index) c.layout-layout.ensures.layout ∙ size_there store.shape.nodes l.index node (drop (l.index + 1) store.shape.nodes) turn.split in
    let fields : c.len-fields.result ≡ length store.shape.fields = c.len-fields.ensures ∙ ap (λ (s : Shape). length s.fields) (c.shape-shape.ensures.value ∙ c.layout-layout.ensures.layout) in
    let own : c.own_words.result ≡ own_words node.kind node l.before (l.before * size_of node.sizes) = c.own_words.ensures ∙ ap (λ s. own_words node.kind node l.before (l.before * s)) size in
    let need : ℕ = live_in store (l.index + 1) node in
    let chunks : c.chunk_words.result ≡ chunks_for node.kind node need (length store.shape.fields) = c.chunk_words.ensures ∙ ap (λ n. chunks_for node.kind node n c.len-fields.result) c.live_of-need.ensures.value ∙ ap (λ f. chunks_for node.kind node need f) fields in
    let total : counted (live_in store) (length store.shape.fields) 1 1 1 store.shape.nodes ≤ 2 ^ 56 = total_most (live_in store) store.shape well.accepted (live_within store well) in
    let words : ℕ = l.words + (l.copies * own_words node.kind node l.before (l.before * size_of node.sizes) + chunks_for node.kind node need (length store.shape.fields)) in
    let most : words ≤ 2 ^ 56 = omega (arith, total, turn.counted) in
    let here : l.words + (l.copies * c.own_words.result + c.chunk_words.result) ≤ 2 ^ 56 = rw (own, chunks) most in
    omega arith

pub loop-index-preserved : goal.loop-index-preserved
loop-index-preserved c =
    let store = c.args.store.now in
    let l = c.loop-index in
    let node = c.index-nodes-index.result in
    let well = c.layout-layout.ensures.well_formed in
    let same = c.as_slice-nodes.ensures ∙ ap (λ (s : Shape). s.nodes) (c.shape-shape.ensures.value ∙ c.layout-layout.ensures.layout) in
    let below : l.index < length c.as_slice-nodes.result.now = omega (arith, c.loop-index-test.true) in
    let turn = turn_at store well l.index l.copies l.before l.words _ c.as_slice-nodes.result.now node same below c.index-nodes-index.is l.invariant.0 l.invariant.1 in
    let size : c.size.result ≡ size_of node.sizes = c.size.ensures.value ∙ ap (λ (s : Shape). slice_index (sizes_of s.nodes) l.index) c.layout-layout.ensures.layout ∙ size_there store.shape.nodes l.index node (drop (l.index + 1) store.shape.nodes) turn.split in
    let fields : c.len-fields.result ≡ length store.shape.fields = c.len-fields.ensures ∙ ap (λ (s : Shape). length s.fields) (c.shape-shape.ensures.value ∙ c.layout-layout.ensures.layout) in
    let own : c.own_words.result ≡ own_words node.kind node l.before (l.before * size_of node.sizes) = c.own_words.ensures ∙ ap (λ s. own_words node.kind node l.before (l.before * s)) size in
    let need : ℕ = live_in store (l.index + 1) node in
    let chunks : c.chunk_words.result ≡ chunks_for node.kind node need (length store.shape.fields) = c.chunk_words.ensures ∙ ap (λ n. chunks_for node.kind node n c.len-fields.result) c.live_of-need.ensures.value ∙ ap (λ f. chunks_for node.kind node need f) fields in
    let copies : c.copies_next-copies.result ≡ copies_next node.kind need l.copies = c.copies_next-copies.ensures ∙ ap (λ n. copies_next node.kind n l.copies) c.live_of-need.ensures.value in
    let next : c.slots_next-before.result ≡ slots_next node.kind (l.before * size_of node.sizes) = c.slots_next-before.ensures ∙ ap (λ s. slots_next node.kind (l.before * s)) size in
    rw (own, chunks, copies, next) (turn.counted, turn.tally)

pub overflow_mul-result : goal.overflow_mul-result
overflow_mul-result c =
    let store = c.args.store.now in
    let l = c.loop-index in
    let well = c.layout-layout.ensures.well_formed in
    let same = c.as_slice-nodes.ensures ∙ ap (λ (s : Shape). s.nodes) (c.shape-shape.ensures.value ∙ c.layout-layout.ensures.layout) in
    let fields : c.len-fields.result ≡ length store.shape.fields = c.len-fields.ensures ∙ ap (λ (s : Shape). length s.fields) (c.shape-shape.ensures.value ∙ c.layout-layout.ensures.layout) in
    let past : length store.shape.nodes ≤ l.index = omega (arith, ap length same, c.loop-index-test.false) in
    let whole : l.words + l.copies * (l.before * length store.shape.fields) ≡ counted (live_in store) (length store.shape.fields) 1 1 1 store.shape.nodes =
    ap (λ xs. l.words + counted (live_in store) (length store.shape.fields) l.copies l.before (l.index + 1) xs) (sym (drop_all l.index store.shape.nodes past)) ∙ l.invariant.0 in
    let cells = tally_cells store.shape.axes (l.index + 1) (length store.shape.fields) l.copies l.before (drop l.index store.shape.nodes) l.invariant.1 in
    let all : l.words + l.copies * (l.before * c.len-fields.result) ≡ counted (live_in store) (length store.shape.fields) 1 1 1 store.shape.nodes = rw fields whole in
    let few : l.before * c.len-fields.result ≤ 2 ^ 34 = rw fields (cells.0) in
    omega arith

pub overflow_add-result : goal.overflow_add-result
overflow_add-result c =
    let store = c.args.store.now in
    let l = c.loop-index in
    let well = c.layout-layout.ensures.well_formed in
    let same = c.as_slice-nodes.ensures ∙ ap (λ (s : Shape). s.nodes) (c.shape-shape.ensures.value ∙ c.layout-layout.ensures.layout) in
    let fields : c.len-fields.result ≡ length store.shape.fields = c.len-fields.ensures ∙ ap (λ (s : Shape). length s.fields) (c.shape-shape.ensures.value ∙ c.layout-layout.ensures.layout) in
    let past : length store.shape.nodes ≤ l.index = omega (arith, ap length same, c.loop-index-test.false) in
    let whole : l.words + l.copies * (l.before * length store.shape.fields) ≡ counted (live_in store) (length store.shape.fields) 1 1 1 store.shape.nodes =
    ap (λ xs. l.words + counted (live_in store) (length store.shape.fields) l.copies l.before (l.index + 1) xs) (sym (drop_all l.index store.shape.nodes past)) ∙ l.invariant.0 in
    let cells = tally_cells store.shape.axes (l.index + 1) (length store.shape.fields) l.copies l.before (drop l.index store.shape.nodes) l.invariant.1 in
    let all : l.words + l.copies * (l.before * c.len-fields.result) ≡ counted (live_in store) (length store.shape.fields) 1 1 1 store.shape.nodes = rw fields whole in
    let total : counted (live_in store) (length store.shape.fields) 1 1 1 store.shape.nodes ≤ 2 ^ 56 = total_most (live_in store) store.shape well.accepted (live_within store well) in
    omega (arith, all, total)

pub returns : goal.returns
returns c =
    let store = c.args.store.now in
    let l = c.loop-index in
    let well = c.layout-layout.ensures.well_formed in
    let same = c.as_slice-nodes.ensures ∙ ap (λ (s : Shape). s.nodes) (c.shape-shape.ensures.value ∙ c.layout-layout.ensures.layout) in
    let fields : c.len-fields.result ≡ length store.shape.fields = c.len-fields.ensures ∙ ap (λ (s : Shape). length s.fields) (c.shape-shape.ensures.value ∙ c.layout-layout.ensures.layout) in
    let past : length store.shape.nodes ≤ l.index = omega (arith, ap length same, c.loop-index-test.false) in
    let whole : l.words + l.copies * (l.before * length store.shape.fields) ≡ counted (live_in store) (length store.shape.fields) 1 1 1 store.shape.nodes =
    ap (λ xs. l.words + counted (live_in store) (length store.shape.fields) l.copies l.before (l.index + 1) xs) (sym (drop_all l.index store.shape.nodes past)) ∙ l.invariant.0 in
    let cells = tally_cells store.shape.axes (l.index + 1) (length store.shape.fields) l.copies l.before (drop l.index store.shape.nodes) l.invariant.1 in
    let all : l.words + l.copies * (l.before * c.len-fields.result) ≡ counted (live_in store) (length store.shape.fields) 1 1 1 store.shape.nodes = rw fields whole in
    all
