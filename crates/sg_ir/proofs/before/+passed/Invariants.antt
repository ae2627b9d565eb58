use Rattle.std.proofs.Common.{◌+◌, length}
use Rattle.sg_ir.specs.steps.Scopes.{size_of_before}
use Rattle.sg_ir.proofs.before.+passed.Given as goal

abbrev pub decreases-passed_by : goal.decreases-passed_by
decreases-passed_by l = size_of_before l.before.now

abbrev pub decreases-passed_in : goal.decreases-passed_in
decreases-passed_in l = length l.done.now + size_of_before l.outer.now + 1
