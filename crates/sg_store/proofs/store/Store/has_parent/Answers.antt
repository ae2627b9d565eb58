use Rattle.std.proofs.Common.{◌≡◌, Some, length, cond, true, refl, sym, ap, ◌∙◌, arith}
use Rattle.std.specs.Prelude.{slice_get}
use Rattle.std.proofs.lemmas.Option.{slice_get_read}
use Rattle.sg_layout.specs.declared.shape.NodeShape.{NodeShape}
use Rattle.sg_layout.specs.declared.shape.Shape.{Shape}
use Rattle.sg_layout.specs.StorageWords.{ends_segment}
use Rattle.sg_store.specs.StoreWords.{StoreWords}
use Rattle.sg_store.proofs.LinksListed.{above_next}
use Rattle.sg_store.proofs.store.Store.has_parent.Goals as goal

pub loop-above-preserved : goal.loop-above-preserved
loop-above-preserved c =
    let nodes = c.as_slice-nodes.result.now in
    let long : length c.as_slice-nodes.result.now ≡ length c.args.self.now.shape.nodes =
    ap length (c.as_slice-nodes.ensures ∙ ap (λ (s : Shape). s.nodes) (c.shape.ensures.value ∙ ap (λ (s : StoreWords). s.shape) c.self.view_is)) in
    let at : slice_get c.as_slice-nodes.result.now c.loop-above.above ≡ Some c.index-nodes-above.result =
    slice_get_read nodes (length nodes) c.loop-above.above c.index-nodes-above.result refl (omega (arith, long, c.loop-above-test.true, c.requires)) c.index-nodes-above.is in
    c.is_parent_or-found.ensures ∙ ap (λ (n : NodeShape). cond (ends_segment n.kind) true c.loop-above.found) (sym c.index-nodes-above.is)
    ∙ above_next nodes c.loop-above.above c.index-nodes-above.result c.loop-above.found at c.loop-above.invariant
