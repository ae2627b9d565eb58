use Rattle.std.proofs.Common.{take}
use Rattle.std.specs.List.{AllZip}
use Rattle.sg_session.specs.Compiled.{IsCodeOf}
use Rattle.sg_session.proofs.kernels.lower_all.Given as goal

abbrev pub invariant-loop-kernel : goal.invariant-loop-kernel
invariant-loop-kernel l = AllZip (IsCodeOf l.layouts.list) (take l.kernel-index l.kernels) l.codes
