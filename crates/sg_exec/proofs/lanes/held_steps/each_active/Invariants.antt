use Rattle.sg_exec.specs.steps.Accessing.{TellsActive}
use Rattle.sg_exec.specs.steps.Holding.{held_at}
use Rattle.sg_exec.proofs.EachLane.{AreBefore}
use Rattle.sg_exec.proofs.lanes.held_steps.each_active.Given as goal

abbrev pub invariant-loop-k : goal.invariant-loop-k
invariant-loop-k l = AreBefore (λ k word. TellsActive l.fn.view (held_at l.fn.row k) word) l.k l.words
