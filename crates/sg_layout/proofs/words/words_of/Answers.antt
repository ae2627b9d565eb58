use Rattle.std.proofs.Common.{◌≡◌, ℕ, ◌+◌, ◌*◌, ◌≤◌, ◌^◌, sym, ap, ◌∙◌, subst, arith, drop}
use Rattle.std.proofs.lemmas.List.{drop_all}
use Rattle.sg_layout.specs.Axes.{size_of}
use Rattle.sg_layout.specs.StorageWords.{chunks_by}
use Rattle.sg_layout.specs.steps.WordSteps.{own_words, slots_next, counted}
use Rattle.sg_layout.proofs.Faultless.{no_fault}
use Rattle.sg_layout.proofs.Counting.{counted_is}
use Rattle.sg_layout.proofs.Tallies.{IsTally, tally_turn, tally_start, tally_cells, total_most}
use Rattle.sg_layout.proofs.words.words_of.Goals as goal

pub loop-node-init : goal.loop-node-init
loop-node-init c =
    let start = tally_start c.args.shape.now c.requires in
    let fields = subst (λ n. IsTally c.args.shape.now.axes 1 n 1 1 c.args.shape.now.nodes) (sym c.len-fields.ensures) start in
    let same : 0 + counted c.len-fields.result 1 1 c.args.shape.now.nodes ≡ counted c.len-fields.result 1 1 c.args.shape.now.nodes = omega arith in (
      ap (λ xs. 0 + counted c.len-fields.result 1 1 xs) c.as_slice-node-items.ensures ∙ same,
      subst (λ xs. IsTally c.args.shape.now.axes 1 c.len-fields.result 1 1 xs) (sym c.as_slice-node-items.ensures) fields,
    )

pub size_of-requires-clause-small : goal.size_of-requires-clause-small
size_of-requires-clause-small c =
    let l = c.loop-node in
    let node = c.node-item.result in
    let turn = tally_turn c.args.shape.now.axes l.node-index c.len-fields.result l.copies l.before l.words _ c.as_slice-node-items.result.now node c.loop-node-test.true c.node-item.is l.invariant.0 l.invariant.1 in
    rw c.as_slice.ensures (turn.0.size)

pub overflow_mul-slots : goal.overflow_mul-slots
overflow_mul-slots c =
    let l = c.loop-node in
    let node = c.node-item.result in
    let turn = tally_turn c.args.shape.now.axes l.node-index c.len-fields.result l.copies l.before l.words _ c.as_slice-node-items.result.now node c.loop-node-test.true c.node-item.is l.invariant.0 l.invariant.1 in
    let size : c.size_of.result ≡ size_of node.sizes = c.size_of.ensures ∙ ap size_of c.as_slice.ensures in
    let slots : l.before * c.size_of.result ≤ 2 ^ 30 = rw size (turn.0.slots) in
    omega arith

pub own_words-requires-clause-few : goal.own_words-requires-clause-few
own_words-requires-clause-few c =
    let l = c.loop-node in
    let node = c.node-item.result in
    let turn = tally_turn c.args.shape.now.axes l.node-index c.len-fields.result l.copies l.before l.words _ c.as_slice-node-items.result.now node c.loop-node-test.true c.node-item.is l.invariant.0 l.invariant.1 in
    let size : c.size_of.result ≡ size_of node.sizes = c.size_of.ensures ∙ ap size_of c.as_slice.ensures in
    rw size (turn.0.slots)

pub overflow_mul-words : goal.overflow_mul-words
overflow_mul-words c =
    let l = c.loop-node in
    let node = c.node-item.result in
    let turn = tally_turn c.args.shape.now.axes l.node-index c.len-fields.result l.copies l.before l.words _ c.as_slice-node-items.result.now node c.loop-node-test.true c.node-item.is l.invariant.0 l.invariant.1 in
    let size : c.size_of.result ≡ size_of node.sizes = c.size_of.ensures ∙ ap size_of c.as_slice.ensures in
    let own : c.own_words.result ≡ own_words node.kind node l.before (l.before * size_of node.sizes) = c.own_words.ensures ∙ ap (λ s. own_words node.kind node l.before (l.before * s)) size in
    let few : l.copies * c.own_words.result ≤ 2 ^ 52 = rw own (turn.0.own) in
    omega arith

pub chunk_words-requires-clause-small : goal.chunk_words-requires-clause-small
chunk_words-requires-clause-small c =
    let l = c.loop-node in
    let node = c.node-item.result in
    let turn = tally_turn c.args.shape.now.axes l.node-index c.len-fields.result l.copies l.before l.words _ c.as_slice-node-items.result.now node c.loop-node-test.true c.node-item.is l.invariant.0 l.invariant.1 in
    turn.0.size

pub overflow_add-words : goal.overflow_add-words
overflow_add-words c =
    let l = c.loop-node in
    let node = c.node-item.result in
    let turn = tally_turn c.args.shape.now.axes l.node-index c.len-fields.result l.copies l.before l.words _ c.as_slice-node-items.result.now node c.loop-node-test.true c.node-item.is l.invariant.0 l.invariant.1 in
    let size : c.size_of.result ≡ size_of node.sizes = c.size_of.ensures ∙ ap size_of c.as_slice.ensures in
    let own : c.own_words.result ≡ own_words node.kind node l.before (l.before * size_of node.sizes) = c.own_words.ensures ∙ ap (λ s. own_words node.kind node l.before (l.before * s)) size in
    let few : l.copies * c.own_words.result ≤ 2 ^ 52 = rw own (turn.0.own) in
    let chunks : c.chunk_words.result ≤ 2 ^ 52 = rw c.chunk_words.ensures (turn.0.chunks) in
    omega arith

pub overflow_add-words-in-loop-node : goal.overflow_add-words-in-loop-node
overflow_add-words-in-loop-node c =
    let l = c.loop-node in
    let node = c.node-item.result in
    let turn = tally_turn c.args.shape.now.axes l.node-index c.len-fields.result l.copies l.before l.words _ c.as_slice-node-items.result.now node c.loop-node-test.true c.node-item.is l.invariant.0 l.invariant.1 in
    let size : c.size_of.result ≡ size_of node.sizes = c.size_of.ensures ∙ ap size_of c.as_slice.ensures in
    let own : c.own_words.result ≡ own_words node.kind node l.before (l.before * size_of node.sizes) = c.own_words.ensures ∙ ap (λ s. own_words node.kind node l.before (l.before * s)) size in
    let most = total_most c.args.shape.now c.requires in
    let total : counted c.len-fields.result 1 1 c.args.shape.now.nodes ≤ 2 ^ 56 = subst (λ n. counted n 1 1 c.args.shape.now.nodes ≤ 2 ^ 56) (sym c.len-fields.ensures) most in
    let words : ℕ = l.words + (l.copies * own_words node.kind node l.before (l.before * size_of node.sizes) + chunks_by node.kind node c.len-fields.result) in
    let below : words ≤ 2 ^ 56 = omega (arith, turn.1) in
    let here : l.words + (l.copies * c.own_words.result + c.chunk_words.result) ≤ 2 ^ 56 = rw (own, c.chunk_words.ensures) below in
    omega arith

pub loop-node-preserved : goal.loop-node-preserved
loop-node-preserved c =
    let l = c.loop-node in
    let node = c.node-item.result in
    let turn = tally_turn c.args.shape.now.axes l.node-index c.len-fields.result l.copies l.before l.words _ c.as_slice-node-items.result.now node c.loop-node-test.true c.node-item.is l.invariant.0 l.invariant.1 in
    let size : c.size_of.result ≡ size_of node.sizes = c.size_of.ensures ∙ ap size_of c.as_slice.ensures in
    let own : c.own_words.result ≡ own_words node.kind node l.before (l.before * size_of node.sizes) = c.own_words.ensures ∙ ap (λ s. own_words node.kind node l.before (l.before * s)) size in
    let slots : l.before * c.size_of.result ≡ l.before * size_of node.sizes = ap (λ s. l.before * s) size in
    let next : c.slots_next-before.result ≡ slots_next node.kind (l.before * size_of node.sizes) = c.slots_next-before.ensures ∙ ap (λ s. slots_next node.kind s) slots in
    rw (own, c.chunk_words.ensures, c.copies_next-copies.ensures, next) (turn.1, turn.2)

pub overflow_add-result : goal.overflow_add-result
overflow_add-result c =
    let l = c.loop-node in
    let cells = tally_cells c.args.shape.now.axes (l.node-index + 1) c.len-fields.result l.copies l.before (drop l.node-index c.as_slice-node-items.result.now) l.invariant.1 in
    let none = drop_all l.node-index c.as_slice-node-items.result.now c.loop-node-test.false in
    let whole : l.words + l.copies * (l.before * c.len-fields.result) ≡ counted c.len-fields.result 1 1 c.args.shape.now.nodes = ap (λ xs. l.words + counted c.len-fields.result l.copies l.before xs) (sym none) ∙ l.invariant.0 in
    let most = total_most c.args.shape.now c.requires in
    let total : counted c.len-fields.result 1 1 c.args.shape.now.nodes ≤ 2 ^ 56 = subst (λ n. counted n 1 1 c.args.shape.now.nodes ≤ 2 ^ 56) (sym c.len-fields.ensures) most in
    omega arith

pub returns-clause-value : goal.returns-clause-value
returns-clause-value c =
    let l = c.loop-node in
    let none = drop_all l.node-index c.as_slice-node-items.result.now c.loop-node-test.false in
    let whole : l.words + l.copies * (l.before * c.len-fields.result) ≡ counted c.len-fields.result 1 1 c.args.shape.now.nodes = ap (λ xs. l.words + counted c.len-fields.result l.copies l.before xs) (sym none) ∙ l.invariant.0 in
    whole ∙ ap (λ n. counted n 1 1 c.args.shape.now.nodes) c.len-fields.ensures ∙ sym (counted_is c.args.shape.now (no_fault c.args.shape.now c.requires))

pub returns-clause-bounded : goal.returns-clause-bounded
returns-clause-bounded c =
    let l = c.loop-node in
    let none = drop_all l.node-index c.as_slice-node-items.result.now c.loop-node-test.false in
    let whole : l.words + l.copies * (l.before * c.len-fields.result) ≡ counted c.len-fields.result 1 1 c.args.shape.now.nodes = ap (λ xs. l.words + counted c.len-fields.result l.copies l.before xs) (sym none) ∙ l.invariant.0 in
    let most = total_most c.args.shape.now c.requires in
    let total : counted c.len-fields.result 1 1 c.args.shape.now.nodes ≤ 2 ^ 56 = subst (λ n. counted n 1 1 c.args.shape.now.nodes ≤ 2 ^ 56) (sym c.len-fields.ensures) most in
    omega arith
