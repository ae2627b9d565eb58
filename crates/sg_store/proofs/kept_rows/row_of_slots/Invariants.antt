use Rattle.sg_store.specs.steps.KeptWords.{in_row, AreMarked}
use Rattle.sg_store.proofs.kept_rows.row_of_slots.Given as goal

abbrev pub invariant-loop-slot : goal.invariant-loop-slot
invariant-loop-slot l = AreMarked (in_row l.row) l.node l.kept l.above l.places l.slot
