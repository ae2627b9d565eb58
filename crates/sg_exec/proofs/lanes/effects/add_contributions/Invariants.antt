use Rattle.std.specs.Prelude.{None}
use Rattle.sg_exec.specs.steps.Rows.{item_in}
use Rattle.sg_exec.specs.steps.Accessing.{IsContributed, KeepStores}
use Rattle.sg_exec.proofs.Added.{AreMadeBefore}
use Rattle.sg_exec.proofs.lanes.effects.add_contributions.Given as goal

abbrev pub invariant-loop-k : goal.invariant-loop-k
invariant-loop-k l = record {
  stores : KeepStores l.fn.moments l.moments;
  made : AreMadeBefore (λ k. IsContributed l.fn.places.stores (item_in l.fn.places.list None k l.fn.place) l.fn.op l.fn.layout l.fn.field (item_in l.fn.regs 0 k l.fn.from)) l.fn.columns.on l.k l.fn.moments l.moments;
}
