use Rattle.sg_exec.specs.steps.Rows.{item_in}
use Rattle.sg_exec.specs.steps.Accessing.{own_write_at, IsWritten, KeepStores}
use Rattle.sg_exec.proofs.Added.{AreMadeBefore}
use Rattle.sg_exec.proofs.lanes.effects.write_all.Given as goal

abbrev pub invariant-loop-k : goal.invariant-loop-k
invariant-loop-k l = record {
  stores : KeepStores l.fn.moments l.moments;
  made : AreMadeBefore (λ k before. IsWritten (own_write_at l.fn.layout l.fn.field (item_in l.fn.regs 0 k l.fn.from) before) before) l.fn.columns.on l.k l.fn.moments l.moments;
}
