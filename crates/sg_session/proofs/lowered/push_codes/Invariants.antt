use Rattle.std.proofs.Common.{◌≡◌, ◌++◌, length, drop}
use Rattle.sg_session.specs.Texts as spec
use Rattle.sg_session.proofs.lowered.push_codes.Given as goal

abbrev pub invariant-loop-number : goal.invariant-loop-number
invariant-loop-number l = record {
  lines : l.bytes.items ++ spec.lines_of_kernels (drop l.number l.names.kernels) (drop l.number l.kernels) ≡ l.initial.bytes.items ++ spec.lines_of_kernels l.names.kernels l.kernels;
  many : length l.kernels ≡ length l.names.kernels;
}
