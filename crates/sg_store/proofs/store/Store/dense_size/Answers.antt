use Rattle.std.proofs.Common.{ap, length, subst, arith, inr}
use Rattle.sg_store.specs.declared.frame.NodeWidths.{NodeWidths}
use Rattle.sg_store.specs.StoreWords.{StoreWords}
use Rattle.sg_store.specs.WellFormed.{IsWellFormed}
use Rattle.sg_store.specs.steps.Widths.{IsWidths}
use Rattle.sg_store.proofs.DenseNodes.{dense_node, other_node}
use Rattle.sg_store.proofs.store.Store.dense_size.Goals as goal

pub returns-in-Dense-clause-size : goal.returns-in-Dense-clause-size
returns-in-Dense-clause-size c =
    let store : StoreWords = c.args.self.now in
    let widths : NodeWidths = c.widths-widths.result in
    let is : IsWidths store.shape.nodes c.args.index widths = subst (λ (s : StoreWords). IsWidths s.shape.nodes c.args.index widths) c.self.view_is c.widths-widths.ensures in
    dense_node store c.args.index widths (subst IsWellFormed c.self.view_is c.self.invariant) is (omega (arith, c.nodes.ensures.value, c.if-index-nodes.false, ap (λ (s : StoreWords). length s.shape.nodes) c.self.view_is)) c.in-Dense.is

pub returns-in-Bitmasked : goal.returns-in-Bitmasked
returns-in-Bitmasked c =
    let store : StoreWords = c.args.self.now in
    let widths : NodeWidths = c.widths-widths.result in
    let is : IsWidths store.shape.nodes c.args.index widths = subst (λ (s : StoreWords). IsWidths s.shape.nodes c.args.index widths) c.self.view_is c.widths-widths.ensures in
    record {
      size = tt;
      none = inr (other_node store c.args.index widths is (omega (arith, c.nodes.ensures.value, c.if-index-nodes.false, ap (λ (s : StoreWords). length s.shape.nodes) c.self.view_is)) c.in-Bitmasked.is);
    }
