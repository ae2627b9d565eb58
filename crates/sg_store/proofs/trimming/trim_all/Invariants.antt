use Rattle.sg_store.specs.steps.StorePlans.{AreTrimmedTo}
use Rattle.sg_store.proofs.trimming.trim_all.Given as goal

abbrev pub invariant-loop-index : goal.invariant-loop-index
invariant-loop-index l = AreTrimmedTo l.shapes l.fn.nodes.items l.nodes.items l.plans l.index
