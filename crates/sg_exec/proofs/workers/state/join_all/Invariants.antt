use Rattle.std.proofs.Common.{◌-◌, length}
use Rattle.sg_exec.proofs.Splitting.{Joining}
use Rattle.sg_exec.proofs.workers.state.join_all.Given as goal

abbrev pub invariant-loop-number : goal.invariant-loop-number
invariant-loop-number l = Joining l.accumulated (length l.accumulated - l.number) l.fn.seats.items l.fn.others.items l.seats.items l.others.items
