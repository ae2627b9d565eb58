use Rattle.std.proofs.Common.{◌≡◌, take, true}
use Rattle.sg_ir.specs.steps.Frames.{are_good}
use Rattle.sg_ir.proofs.typing.Typing.+judge.Given as goal

abbrev pub invariant-block_fits-loop-done : goal.invariant-block_fits-loop-done
invariant-block_fits-loop-done l = are_good l.self l.before (take l.done l.block) ≡ true
