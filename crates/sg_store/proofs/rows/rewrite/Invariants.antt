use Rattle.sg_store.proofs.FieldRows.{IsWritten}
use Rattle.sg_store.proofs.rows.rewrite.Given as goal

abbrev pub invariant-loop-part : goal.invariant-loop-part
invariant-loop-part l = IsWritten l.parts l.part-index l.cell l.row l.fn.row
