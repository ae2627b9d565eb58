use Rattle.std.proofs.Common.{◌≡◌, ◌++◌, take}
use Rattle.sg_exec.specs.steps.Machines.{AreCells}
use Rattle.sg_exec.specs.steps.Landing.{current}
use Rattle.sg_exec.specs.steps.Racing.{all_writes, AreSeats}
use Rattle.sg_exec.specs.steps.Pending.{ArePending, HaveTaken}
use Rattle.sg_exec.specs.steps.Puts.{kept_writes}
use Rattle.sg_exec.proofs.Iterations.{owns_of}
use Rattle.sg_exec.proofs.workers.race.work_some.Given as goal

abbrev pub invariant-loop-k : goal.invariant-loop-k
invariant-loop-k g l = record {
  pending : ArePending l.accumulated l.pending.items;
  seats : AreSeats l.accumulated l.hand.seats.items;
  taken : HaveTaken l.accumulated (all_writes (take l.k l.batch.moments.items)) l.fn.pending.items l.fn.hand.seats.items l.pending.items l.hand.seats.items;
  cells : AreCells (current l.reached l.stores.list) (kept_writes l.hand.puts);
  wrote : AreCells (current l.reached l.stores.list) (all_writes (take l.k l.batch.moments.items));
  puts : kept_writes l.hand.puts ≡ kept_writes l.fn.hand.puts ++ owns_of l.owned (take l.k l.batch.moments.items);
}
