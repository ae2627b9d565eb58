use Rattle.std.proofs.Common.{◌∙◌, ◌+◌, ◌++◌, ap, drop, map, List}
use Rattle.sg_layout.specs.declared.measures.Measures.{Measures}
use Rattle.sg_layout.specs.Slots.{node_bounds}
use Rattle.sg_layout.specs.steps.Measuring.{measure_of, measures_in}
use Rattle.sg_layout.proofs.Measured.{split_at, fits_split, one_more, two_same}
use Rattle.sg_layout.proofs.axes.measures_of.Goals as goal

pub loop-index-preserved : goal.loop-index-preserved
loop-index-preserved c =
    let kept = c.loop-index.invariant in
    let nodes = c.as_slice-nodes.result.now in
    let split = split_at nodes c.loop-index.index c.index-nodes-index.result _ c.loop-index-test.true c.index-nodes-index.is in (
      ap (λ (done : List Measures). map measure_of done ++ measures_in (drop (c.loop-index.index + 1) nodes)) c.in_ok-push.ensures.ok
          ∙ one_more c.loop-index.measures c.node_measures.result nodes c.loop-index.index c.index-nodes-index.result (measures_in nodes) split
          (two_same c.node_measures.result (node_bounds c.index-nodes-index.result) nodes (c.loop-index.index + 1) c.node_measures.ensures.own c.node_measures.ensures.below) kept.0,
      fits_split c.args.shape.now.axes (c.loop-index.index + 1) nodes c.loop-index.index c.index-nodes-index.result split kept.1,
      kept.2,
    )
