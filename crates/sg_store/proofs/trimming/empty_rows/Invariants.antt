use Rattle.sg_store.specs.steps.StorePlans.{AreEmptied}
use Rattle.sg_store.proofs.trimming.empty_rows.Given as goal

abbrev pub invariant-loop-index : goal.invariant-loop-index
invariant-loop-index l = AreEmptied l.fn.rows.items l.rows.items l.index
