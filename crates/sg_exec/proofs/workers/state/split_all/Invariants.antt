use Rattle.sg_exec.proofs.Splitting.{Splitting}
use Rattle.sg_exec.proofs.workers.state.split_all.Given as goal

abbrev pub invariant-loop-number : goal.invariant-loop-number
invariant-loop-number l = Splitting l.accumulated l.number l.fn.seats.items l.seats.items l.others.items
