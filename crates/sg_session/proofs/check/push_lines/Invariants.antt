use Rattle.std.proofs.Common.{◌≡◌, ◌++◌, length, drop}
use Rattle.sg_session.specs.Texts as spec
use Rattle.sg_session.proofs.check.push_lines.Given as goal

abbrev pub invariant-loop-number : goal.invariant-loop-number
invariant-loop-number l = record {
  lines : l.bytes.items ++ spec.check_lines (drop l.number l.names.kernels) (drop l.number l.neutral) ≡ l.initial.bytes.items ++ spec.check_lines l.names.kernels l.neutral;
  many : length l.neutral ≡ length l.names.kernels;
}
