use Rattle.sg_exec.specs.steps.Accessing.{coord_in, IsWanted, KeepStores}
use Rattle.sg_exec.proofs.Added.{AreMadeBefore}
use Rattle.sg_exec.proofs.lanes.effects.add_wants.Given as goal

abbrev pub invariant-loop-k : goal.invariant-loop-k
invariant-loop-k l = record {
  stores : KeepStores l.fn.moments l.moments;
  made : AreMadeBefore (λ k. IsWanted (record { layout = l.fn.layout; stmt = l.fn.stmt; at = coord_in l.fn.regs k l.fn.index })) l.fn.columns.on l.k l.fn.moments l.moments;
}
