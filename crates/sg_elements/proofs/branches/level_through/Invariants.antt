use Rattle.sg_elements.specs.steps.Levels.{AreBranches, level_at}
use Rattle.sg_elements.proofs.branches.level_through.Given as goal

abbrev pub invariant-loop-node : goal.invariant-loop-node
invariant-loop-node l = AreBranches l.store l.node l.level.items (level_at l.store l.node)
