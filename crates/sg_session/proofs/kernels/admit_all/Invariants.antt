use Rattle.std.proofs.Common.{◌≡◌, ◌+◌, ◌<◌, ◌^◌, length}
use Rattle.std.specs.List.{AllByRecursion}
use Rattle.sg_session.specs.Compiling.{admitted_kernels}
use Rattle.sg_session.specs.steps.Kernels.{IsReady}
use Rattle.sg_session.specs.steps.Following.{behind_front}
use Rattle.sg_session.proofs.kernels.admit_all.Given as goal

abbrev pub invariant-loop-number : goal.invariant-loop-number
invariant-loop-number l = record {
  rest : behind_front l.admitted (admitted_kernels l.number l.left) ≡ admitted_kernels 0 l.fn.kernels;
  ready : AllByRecursion (IsReady l.layouts.list) l.left;
  count : length l.left + l.number ≡ length l.fn.kernels;
  few : length l.fn.kernels < 2 ^ 32;
}
