use Rattle.std.proofs.Common.{◌≡◌, ◌*◌, ◌≤◌, ◌^◌, List, drop, [], arith, ap, ◌∙◌, subst}
use Rattle.sg_layout.specs.declared.shape.NodeShape.{NodeShape}
use Rattle.sg_layout.specs.declared.shape.Shape.{Shape}
use Rattle.sg_store.specs.steps.Fresh.{AreFresh}
use Rattle.sg_store.proofs.Opening as lemmas
use Rattle.sg_store.proofs.fresh.fresh_nodes.Goals as goal

pub loop-index-init : goal.loop-index-init
loop-index-init c =
    lemmas.so_far_from c.args.layout.now.nodes _ _ (c.as_slice-node-items.ensures ∙ ap (λ (s : Shape). s.nodes) c.shape.ensures.value) c.new-words.ensures.items c.requires

pub overflow_mul-slots : goal.overflow_mul-slots
overflow_mul-slots c =
    let items : List NodeShape = c.as_slice-node-items.result.now in
    let next : lemmas.IsNext items c.args.layout.now.nodes c.loop-index.index c.node-item.result c.size.result = record {
      same = c.as_slice-node-items.ensures ∙ ap (λ (s : Shape). s.nodes) c.shape.ensures.value;
      within = c.loop-index-test.true;
      is = c.node-item.is;
      sized = c.size.ensures.value;
    } in
    let bound : c.loop-index.places * c.size.result ≤ 2 ^ 47 =
    lemmas.next_bound items c.args.layout.now.nodes c.loop-index.index c.loop-index.places c.node-item.result c.size.result next c.loop-index.invariant.roomy in
    omega arith

pub loop-index-preserved : goal.loop-index-preserved
loop-index-preserved c =
    let items : List NodeShape = c.as_slice-node-items.result.now in
    let next : lemmas.IsNext items c.args.layout.now.nodes c.loop-index.index c.node-item.result c.size.result = record {
      same = c.as_slice-node-items.ensures ∙ ap (λ (s : Shape). s.nodes) c.shape.ensures.value;
      within = c.loop-index-test.true;
      is = c.node-item.is;
      sized = c.size.ensures.value;
    } in
    lemmas.so_far_on items c.args.layout.now.nodes c.loop-index.index c.loop-index.places c.node-item.result c.size.result _ _ c.in_ok-fresh_node.field-0 _ next
    c.in_ok-fresh_node.ensures c.in_ok-push.ensures.items c.places_below-places.ensures c.loop-index.invariant

pub returns-clause-words : goal.returns-clause-words
returns-clause-words c =
    let items : List NodeShape = c.as_slice-node-items.result.now in
    let none : drop c.loop-index.index items ≡ [] = lemmas.none_left items c.loop-index.index c.loop-index-test.false in
    let same : items ≡ c.args.layout.now.nodes = c.as_slice-node-items.ensures ∙ ap (λ (s : Shape). s.nodes) c.shape.ensures.value in
    subst (λ ns. AreFresh ns c.loop-index.words.items 1) same (lemmas.so_far_end items (drop c.loop-index.index items) c.loop-index.words.items c.loop-index.places none c.loop-index.invariant).0
