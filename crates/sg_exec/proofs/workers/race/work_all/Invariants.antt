use Rattle.std.proofs.Common.{◌*◌, take}
use Rattle.sg_exec.specs.steps.Machines.{AreCells}
use Rattle.sg_exec.specs.steps.Landing.{current}
use Rattle.sg_exec.specs.steps.Moments.{IsOver}
use Rattle.sg_exec.specs.steps.Racing.{AreSeats, between}
use Rattle.sg_exec.specs.steps.Working.{HasRunAt}
use Rattle.sg_exec.specs.steps.Puts.{kept_writes}
use Rattle.sg_exec.specs.steps.Pending.{NonePending}
use Rattle.sg_exec.proofs.workers.race.work_all.Given as goal

abbrev pub invariant-loop-number : goal.invariant-loop-number
invariant-loop-number g l = record {
  over : IsOver (current l.reached l.stores.list) l.batch;
  none : NonePending l.accumulated l.pending.items;
  seats : AreSeats l.accumulated l.hand.seats.items;
  cells : AreCells (current l.reached l.stores.list) (kept_writes l.hand.puts);
  ran : HasRunAt (current l.reached l.stores.list) l.code l.points (take (l.number * 32) (between l.from l.to l.points)) l.accumulated l.owned l.initial.hand l.hand;
}
