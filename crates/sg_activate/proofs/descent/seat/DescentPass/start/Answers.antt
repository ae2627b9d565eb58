use Rattle.std.proofs.Common.{◌≡◌, suc, refl, sym, ap, ◌∙◌, arith}
use Rattle.sg_layout.specs.declared.shape.Shape.{Shape}
use Rattle.sg_layout.specs.Live.{kind_at}
use Rattle.sg_activate.specs.Descending.{is_pointer, last_from, last_fused, nodes_before, open_before, number_among}
use Rattle.sg_activate.proofs.DescentBridge.{few_before}
use Rattle.sg_activate.proofs.DescentAdds.{kind_read, before_last}
use Rattle.sg_activate.proofs.descent.seat.DescentPass.start.Goals as goal

pub begun-requires : goal.begun-requires
begun-requires c = record {
  total = c.pointers_to.ensures ∙ ap (λ n. number_among is_pointer n (suc c.last_of-last.result)) (c.as_slice-nodes.ensures ∙ ap (λ (s : Shape). s.nodes) (c.shape.ensures.value ∙ c.layout.ensures.layout)) ∙ ap (λ l. number_among is_pointer c.args.store.now.shape.nodes (suc l)) (c.last_of-last.ensures.value ∙ ap (λ n. last_from 1 n 0) (c.as_slice-nodes.ensures ∙ ap (λ (s : Shape). s.nodes) (c.shape.ensures.value ∙ c.layout.ensures.layout)));
}

pub loop-index-init : goal.loop-index-init
loop-index-init c =
    let base : c.before-base.result ≡ open_before c.args.store.now.shape = (c.before-base.ensures ∙ ap nodes_before (sym (kind_read c.args.store.now.shape.nodes c.as_slice-nodes.result.now 0 1 _ (c.as_slice-nodes.ensures ∙ ap (λ (s : Shape). s.nodes) (c.shape.ensures.value ∙ c.layout.ensures.layout)) refl (let s = c.requires.fused in before_last c.args.store.now.shape.nodes 0 (omega arith))))) in
    let none = c.in_ok-plan.ensures.empty in
    let few = few_before (kind_at c.args.store.now.shape.nodes 1) in
    let last : c.last_of-last.result ≡ last_fused c.args.store.now.shape = (c.last_of-last.ensures.value ∙ ap (λ n. last_from 1 n 0) (c.as_slice-nodes.ensures ∙ ap (λ (s : Shape). s.nodes) (c.shape.ensures.value ∙ c.layout.ensures.layout))) in
    let some' = c.requires.fused in
    (c.in_ok-plan.ensures.plan, omega arith, omega arith)

pub loop-index-preserved : goal.loop-index-preserved
loop-index-preserved c =
    let so-far = c.loop-index.invariant.1 in
    let longer = c.in_ok-add.ensures.longer in
    let below = c.loop-index-test.true in
    (c.in_ok-add.ensures.plan, omega arith, omega arith)

pub add-requires : goal.add-requires
add-requires c =
    let last : c.last_of-last.result ≡ last_fused c.args.store.now.shape = (c.last_of-last.ensures.value ∙ ap (λ n. last_from 1 n 0) (c.as_slice-nodes.ensures ∙ ap (λ (s : Shape). s.nodes) (c.shape.ensures.value ∙ c.layout.ensures.layout))) in
    record {
      plan = c.loop-index.invariant.0;
      next = c.loop-index.invariant.1;
      fused = (let below = c.loop-index-test.true in omega arith);
    }

pub seated-requires : goal.seated-requires
seated-requires c =
    let last : c.last_of-last.result ≡ last_fused c.args.store.now.shape = (c.last_of-last.ensures.value ∙ ap (λ n. last_from 1 n 0) (c.as_slice-nodes.ensures ∙ ap (λ (s : Shape). s.nodes) (c.shape.ensures.value ∙ c.layout.ensures.layout))) in
    let base : c.before-base.result ≡ open_before c.args.store.now.shape = (c.before-base.ensures ∙ ap nodes_before (sym (kind_read c.args.store.now.shape.nodes c.as_slice-nodes.result.now 0 1 _ (c.as_slice-nodes.ensures ∙ ap (λ (s : Shape). s.nodes) (c.shape.ensures.value ∙ c.layout.ensures.layout)) refl (let s = c.requires.fused in before_last c.args.store.now.shape.nodes 0 (omega arith))))) in
    let so-far = c.loop-index.invariant.1 in
    let most = c.loop-index.invariant.2 in
    let end = c.loop-index-test.false in
    record {
      plan = c.loop-index.invariant.0;
      base = base;
      through = omega arith;
      fused = c.requires.fused;
      well_formed = c.layout.ensures.well_formed;
    }
