use Rattle.std.proofs.Common.{◌≡◌, map, take}
use Rattle.sg_simplify.specs.steps.Pass.{made_name}
use Rattle.sg_simplify.specs.steps.Made.{next_of}
use Rattle.sg_simplify.proofs.made.Made.index.Given as goal

abbrev pub invariant-loop-reg : goal.invariant-loop-reg
invariant-loop-reg l = l.names ≡ map (made_name (next_of l.self)) (take l.reg-index l.index)
