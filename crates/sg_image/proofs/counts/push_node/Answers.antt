use Rattle.std.proofs.Common.{◌≡◌, ◌+◌, ◌-◌, suc, get_or, sym, ap, ◌∙◌, arith, add-one}
use Rattle.sg_layout.specs.declared.shape.Shape.{Shape}
use Rattle.sg_image.proofs.Counting.{same_node, counted, uncounted}
use Rattle.sg_image.proofs.counts.push_node.Goals as goal

pub returns-in_ok-push_live : goal.returns-in_ok-push_live
returns-in_ok-push_live c flat stands node there =
    let same = same_node _ c.args.store.now.shape.nodes (c.as_slice.ensures ∙ ap (λ (s : Shape). s.nodes) (c.shape.ensures.value ∙ c.layout-layout.ensures.layout)) c.args.index _ node c.index-as_slice-index.is there in
    let back : (c.args.index + 1) - 1 ≡ c.args.index = omega arith in
    counted c.args.store.now.shape flat.active (suc c.args.index) (c.args.index + 1) c.live.result (get_or c.as_slice.result.now c.args.index c.index-as_slice-index.result) node c.has_cap.result _ _ (sym c.index-as_slice-index.is ∙ same) (add-one c.args.index) c.has_cap.ensures c.if-has_cap.true
    (c.live.ensures.need flat stands node (record { first = omega arith; there = rw back there })) c.in_ok-push_live.ensures

pub returns-else-has_cap : goal.returns-else-has_cap
returns-else-has_cap c flat stands node there =
    let same = same_node _ c.args.store.now.shape.nodes (c.as_slice.ensures ∙ ap (λ (s : Shape). s.nodes) (c.shape.ensures.value ∙ c.layout-layout.ensures.layout)) c.args.index _ node c.index-as_slice-index.is there in
    uncounted c.args.store.now.shape flat.active (suc c.args.index) (get_or c.as_slice.result.now c.args.index c.index-as_slice-index.result) node c.has_cap.result _ (sym c.index-as_slice-index.is ∙ same) c.has_cap.ensures c.if-has_cap.false
