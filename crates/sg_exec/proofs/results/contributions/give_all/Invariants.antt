use Rattle.std.proofs.Common.{take}
use Rattle.sg_exec.specs.steps.Racing.{AreSeats}
use Rattle.sg_exec.specs.steps.Pending.{ArePending, HaveTaken}
use Rattle.sg_exec.proofs.results.contributions.give_all.Given as goal

abbrev pub invariant-loop-write : goal.invariant-loop-write
invariant-loop-write l = record {
  pending : ArePending l.accumulated l.pending.items;
  seats : AreSeats l.accumulated l.seats.items;
  taken : HaveTaken l.accumulated (take l.write-index l.writes) l.fn.pending.items l.fn.seats.items l.pending.items l.seats.items;
}
