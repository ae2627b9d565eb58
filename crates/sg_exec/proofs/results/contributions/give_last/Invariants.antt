use Rattle.sg_exec.specs.steps.Racing.{AreSeats}
use Rattle.sg_exec.proofs.Taking.{GivenBelow}
use Rattle.sg_exec.proofs.results.contributions.give_last.Given as goal

abbrev pub invariant-loop-number : goal.invariant-loop-number
invariant-loop-number l = record {
  seats : AreSeats l.accumulated l.seats.items;
  given : GivenBelow l.number l.accumulated l.fn.pending.items l.fn.seats.items l.pending.items l.seats.items;
}
