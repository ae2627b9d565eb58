use Rattle.std.proofs.Common.{◌-◌, arith}
use Rattle.sg_exec.proofs.BlockRows.{last_good, last_spans}
use Rattle.sg_exec.proofs.loads.spans.last_span.Goals as goal

pub span_of-requires : goal.span_of-requires
span_of-requires c =
    last_good c.args.layout.now c.shape-shape.result.now c.as_slice.result.now (c.nodes.result - 1) c.index-as_slice-nodes.result c.shape-shape.ensures.accepted c.shape-shape.ensures.value c.as_slice.ensures
    (omega (arith, c.nodes.ensures.value, c.nodes.ensures.some)) c.index-as_slice-nodes.is

pub returns-clause-span : goal.returns-clause-span
returns-clause-span c =
    last_spans c.args.layout.now c.shape-shape.result.now c.as_slice.result.now (c.nodes.result - 1) c.index-as_slice-nodes.result c.span_of.result c.shape-shape.ensures.value c.as_slice.ensures
    (omega (arith, c.nodes.ensures.value)) (omega (arith, c.nodes.ensures.value, c.nodes.ensures.some)) c.index-as_slice-nodes.is c.span_of.ensures.span
