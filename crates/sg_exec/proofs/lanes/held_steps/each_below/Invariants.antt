use Rattle.std.specs.Prelude.{get_or}
use Rattle.sg_exec.specs.steps.Machines.{StepsDown}
use Rattle.sg_exec.specs.steps.Holding.{held_at, IsStep}
use Rattle.sg_exec.proofs.HeldWords.{AreThree}
use Rattle.sg_exec.proofs.lanes.held_steps.each_below.Given as goal

abbrev pub invariant-loop-k : goal.invariant-loop-k
invariant-loop-k l = record {
  three : AreThree (λ k held. StepsDown l.fn.view l.fn.node (get_or l.fn.offsets k 0) (held_at l.fn.row k) held) l.k l.below_kinds l.below_parts l.below_slots;
  last : IsStep l.fn.view l.fn.node l.last;
}
