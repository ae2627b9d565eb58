use Rattle.std.proofs.Common.{◌≡◌, ◌++◌, length, reverse}
use Rattle.sg_simplify.proofs.lean.turned.Given as goal

abbrev pub invariant-loop-inst : goal.invariant-loop-inst
invariant-loop-inst l = reverse l.fn.insts ≡ l.last_first ++ reverse l.insts

abbrev pub decreases-loop-inst : goal.decreases-loop-inst
decreases-loop-inst l = length l.insts
