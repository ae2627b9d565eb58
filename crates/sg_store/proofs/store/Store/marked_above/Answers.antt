use Rattle.std.proofs.Common.{◌≡◌, ◌*◌, ◌≤◌, ◌^◌, ap, ◌∙◌, subst, arith}
use Rattle.sg_layout.specs.declared.shape.Shape.{Shape}
use Rattle.sg_layout.specs.Axes.{size_of}
use Rattle.sg_store.specs.StoreWords.{StoreWords}
use Rattle.sg_store.specs.WellFormed.{IsWellFormed}
use Rattle.sg_store.proofs.StorePlans as lemmas
use Rattle.sg_store.proofs.store.Store.marked_above.Goals as goal

pub bounds-words-above : goal.bounds-words-above
bounds-words-above c =
    lemmas.words_there c.args.self.now c.as_slice-words.result.now c.loop-above.above (subst IsWellFormed c.self.view_is c.self.invariant)
    (c.as_slice-words.ensures.value ∙ ap (λ (s : StoreWords). s.nodes) c.self.view_is) (omega (arith, c.loop-above-test.true, c.requires))

node_at : (c : goal.After-size) → lemmas.IsNodeAt c.args.self.now.shape.nodes c.args.self.now.nodes c.loop-above.above c.index-nodes-above.result c.index-words-above.result
node_at c =
    lemmas.node_read (record { shape = c.self.inside.layout; nodes = c.self.inside.nodes.items; fields = c.self.inside.fields.items }) c.args.self.now c.as_slice-nodes.result.now c.as_slice-words.result.now c.loop-above.above
    c.index-nodes-above.result c.index-words-above.result c.self.view_is c.self.invariant (c.as_slice-nodes.ensures ∙ ap (λ (s : Shape). s.nodes) c.shape.ensures.value) c.as_slice-words.ensures.value
    (omega (arith, c.loop-above-test.true, c.requires)) c.index-nodes-above.is c.index-words-above.is

size_is : (c : goal.After-size) → c.size.result ≡ size_of c.index-nodes-above.result.sizes
size_is c = lemmas.size_read c.args.self.now c.self.inside.layout c.loop-above.above c.index-nodes-above.result c.size.result (ap (λ (s : StoreWords). s.shape) c.self.view_is) (node_at c).at c.size.ensures.value

pub overflow_mul-slots : goal.overflow_mul-slots
overflow_mul-slots c =
    let well : IsWellFormed c.args.self.now = subst IsWellFormed c.self.view_is c.self.invariant in
    let few : c.loop-above.places * c.size.result ≤ 2 ^ 47 = lemmas.marked_few c.args.self.now c.loop-above.above c.index-nodes-above.result c.loop-above.places c.size.result well (node_at c).at c.loop-above.invariant (size_is c) in
    omega arith

pub loop-above-preserved : goal.loop-above-preserved
loop-above-preserved c =
    let store : StoreWords = c.args.self.now in
    let at = lemmas.node_read (record { shape = c.self.inside.layout; nodes = c.self.inside.nodes.items; fields = c.self.inside.fields.items }) store c.as_slice-nodes.result.now c.as_slice-words.result.now c.loop-above.above
    c.index-nodes-above.result c.index-words-above.result c.self.view_is c.self.invariant (c.as_slice-nodes.ensures ∙ ap (λ (s : Shape). s.nodes) c.shape.ensures.value) c.as_slice-words.ensures.value
    (omega (arith, c.loop-above-test.true, c.requires)) c.index-nodes-above.is c.index-words-above.is in
    let sized = lemmas.size_read store c.self.inside.layout c.loop-above.above c.index-nodes-above.result c.size.result (ap (λ (s : StoreWords). s.shape) c.self.view_is) at.at c.size.ensures.value in
    lemmas.marked_more store c.loop-above.above c.index-nodes-above.result c.index-words-above.result c.loop-above.places c.size.result c.marked_below-places.result at c.loop-above.invariant sized c.marked_below-places.ensures
