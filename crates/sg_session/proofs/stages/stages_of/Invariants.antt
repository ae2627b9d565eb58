use Rattle.std.proofs.Common.{◌≡◌, ◌++◌, drop}
use Rattle.sg_session.specs.Tasks as spec
use Rattle.sg_session.proofs.stages.stages_of.Given as goal

abbrev pub invariant-loop-item : goal.invariant-loop-item
invariant-loop-item l = l.stages ++ spec.stages_of l.names (drop l.item-index l.items) ≡ spec.stages_of l.names l.items
