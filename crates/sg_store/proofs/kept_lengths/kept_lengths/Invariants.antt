use Rattle.sg_store.specs.steps.KeptWords.{AreKeptLengths}
use Rattle.sg_store.proofs.kept_lengths.kept_lengths.Given as goal

abbrev pub invariant-loop-parent : goal.invariant-loop-parent
invariant-loop-parent l = AreKeptLengths l.kept l.chunk l.row l.lengths l.parent
