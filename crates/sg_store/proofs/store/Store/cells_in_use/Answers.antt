use Rattle.std.proofs.Common.{◌≡◌, ◌*◌, ◌+◌, ◌<◌, length, slice_index, sym, ap, ◌∙◌, subst, arith}
use Rattle.sg_layout.specs.declared.shape.Shape.{Shape}
use Rattle.sg_layout.specs.Axes.{size_of, sizes_of}
use Rattle.sg_store.specs.StoreWords.{StoreWords}
use Rattle.sg_store.specs.WellFormed.{is_root, IsWellFormed}
use Rattle.sg_store.specs.steps.Marks.{marked_below, AreMarked}
use Rattle.sg_store.proofs.Marked.{used_few, used_all, marks_from, marks_bound, marks_next, marks_end, drop_read}
use Rattle.sg_store.proofs.NodeKinds.{read_there}
use Rattle.sg_store.proofs.Stepping.{words_many, size_at}
use Rattle.sg_store.proofs.store.Store.cells_in_use.Goals as goal

pub loop-index-init : goal.loop-index-init
loop-index-init c = marks_from c.args.self.now (subst IsWellFormed c.self.view_is c.self.invariant)

pub bounds-nodes-index : goal.bounds-nodes-index
bounds-nodes-index c =
    let many = words_many c.self.inside.layout.nodes c.self.inside.nodes.items 1 is_root c.self.invariant.nodes_fit in
    omega (arith, c.loop-index-test.true, ap length c.as_slice-words.ensures.value, many, ap length (c.as_slice-nodes.ensures ∙ ap (λ (s : Shape). s.nodes) c.shape.ensures.value))

pub size-requires : goal.size-requires
size-requires c =
    let many = words_many c.self.inside.layout.nodes c.self.inside.nodes.items 1 is_root c.self.invariant.nodes_fit in
    omega (arith, c.loop-index-test.true, ap length c.as_slice-words.ensures.value, many)

pub overflow_mul-slots : goal.overflow_mul-slots
overflow_mul-slots c =
    let store : StoreWords = c.args.self.now in
    let well : IsWellFormed store = subst IsWellFormed c.self.view_is c.self.invariant in
    let words = c.as_slice-words.ensures.value ∙ ap (λ (s : StoreWords). s.nodes) c.self.view_is in
    let many = words_many store.shape.nodes store.nodes 1 is_root well.nodes_fit in
    let index = c.loop-index.index in
    let node = c.index-nodes-index.result in
    let kept = c.index-words-index.result in
    let shapes = c.as_slice-nodes.ensures ∙ ap (λ (s : Shape). s.nodes) c.shape.ensures.value ∙ ap (λ (s : StoreWords). s.shape.nodes) c.self.view_is in
    let low : index < length store.nodes = omega (arith, c.loop-index-test.true, ap length words) in
    let below : index < length store.shape.nodes = omega (arith, low, many) in
    let nodes_are = drop_read c.as_slice-nodes.result.now store.shape.nodes index node shapes below c.index-nodes-index.is in
    let words_are = drop_read c.as_slice-words.result.now store.nodes index kept words low c.index-words-index.is in
    let sized : c.size.result ≡ size_of node.sizes =
    c.size.ensures.value ∙ ap (λ (s : StoreWords). slice_index (sizes_of s.shape.nodes) index) c.self.view_is
    ∙ size_at store.shape.nodes index node (read_there c.as_slice-nodes.result.now store.shape.nodes index node shapes below c.index-nodes-index.is) in
    let slots : c.loop-index.places * c.size.result ≡ c.loop-index.places * size_of node.sizes = ap (λ n. c.loop-index.places * n) sized in
    let bound = marks_bound store index c.loop-index.places node kept nodes_are words_are c.loop-index.invariant in
    omega (arith, bound, slots)

pub loop-index-preserved : goal.loop-index-preserved
loop-index-preserved c =
    let store : StoreWords = c.args.self.now in
    let well : IsWellFormed store = subst IsWellFormed c.self.view_is c.self.invariant in
    let words = c.as_slice-words.ensures.value ∙ ap (λ (s : StoreWords). s.nodes) c.self.view_is in
    let many = words_many store.shape.nodes store.nodes 1 is_root well.nodes_fit in
    let index = c.loop-index.index in
    let node = c.index-nodes-index.result in
    let kept = c.index-words-index.result in
    let shapes = c.as_slice-nodes.ensures ∙ ap (λ (s : Shape). s.nodes) c.shape.ensures.value ∙ ap (λ (s : StoreWords). s.shape.nodes) c.self.view_is in
    let low : index < length store.nodes = omega (arith, c.loop-index-test.true, ap length words) in
    let below : index < length store.shape.nodes = omega (arith, low, many) in
    let nodes_are = drop_read c.as_slice-nodes.result.now store.shape.nodes index node shapes below c.index-nodes-index.is in
    let words_are = drop_read c.as_slice-words.result.now store.nodes index kept words low c.index-words-index.is in
    let sized : c.size.result ≡ size_of node.sizes =
    c.size.ensures.value ∙ ap (λ (s : StoreWords). slice_index (sizes_of s.shape.nodes) index) c.self.view_is
    ∙ size_at store.shape.nodes index node (read_there c.as_slice-nodes.result.now store.shape.nodes index node shapes below c.index-nodes-index.is) in
    let slots : c.loop-index.places * c.size.result ≡ c.loop-index.places * size_of node.sizes = ap (λ n. c.loop-index.places * n) sized in
    subst (λ n. AreMarked store (index + 1) n) (sym (c.marked_below-places.ensures ∙ ap (λ n. marked_below node.kind node kept n) slots))
    (marks_next store index c.loop-index.places node kept nodes_are words_are c.loop-index.invariant)

pub returns-clause-few : goal.returns-clause-few
returns-clause-few c =
    let store : StoreWords = c.args.self.now in
    let well : IsWellFormed store = subst IsWellFormed c.self.view_is c.self.invariant in
    let words = c.as_slice-words.ensures.value ∙ ap (λ (s : StoreWords). s.nodes) c.self.view_is in
    let many = words_many store.shape.nodes store.nodes 1 is_root well.nodes_fit in
    used_few store c.loop-index.places well
    (marks_end store c.loop-index.index c.loop-index.places (omega (arith, c.loop-index-test.false, ap length words, many)) c.loop-index.invariant)

pub returns-clause-all : goal.returns-clause-all
returns-clause-all c =
    let store : StoreWords = c.args.self.now in
    let well : IsWellFormed store = subst IsWellFormed c.self.view_is c.self.invariant in
    let words = c.as_slice-words.ensures.value ∙ ap (λ (s : StoreWords). s.nodes) c.self.view_is in
    let many = words_many store.shape.nodes store.nodes 1 is_root well.nodes_fit in
    used_all store c.loop-index.places well
    (marks_end store c.loop-index.index c.loop-index.places (omega (arith, c.loop-index-test.false, ap length words, many)) c.loop-index.invariant)
