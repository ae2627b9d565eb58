use Rattle.std.proofs.Common.{◌≡◌, length}
use Rattle.sg_exec.proofs.Starting.{Parting}
use Rattle.sg_exec.proofs.lanes.batch.put_parts.Given as goal

abbrev pub invariant-loop-k : goal.invariant-loop-k
invariant-loop-k l = record {
  long : length l.vars ≡ length l.fn.vars;
  parts : Parting l.points l.k l.vars;
}
