use Rattle.std.proofs.Common.{◌≡◌, map, take}
use Rattle.sg_admit.specs.Neutral.{is_neutral_kernel}
use Rattle.sg_session.proofs.kernels.neutral_of.Given as goal

abbrev pub invariant-loop-kernel : goal.invariant-loop-kernel
invariant-loop-kernel l = l.neutral ≡ map (λ kernel. is_neutral_kernel kernel.kernel) (take l.kernel-index l.kernels)
