use Rattle.std.proofs.Common.{◌≡◌, ◌+◌, ◌≤◌, sum_by}
use Rattle.std.specs.Int.{div_ceil}
use Rattle.std.specs.BTreeMap.{values}
use Rattle.sg_flat.proofs.need.pass_cap.Given as goal

abbrev pub invariant-loop-length : goal.invariant-loop-length
invariant-loop-length l = record {
  sum : l.chunks + sum_by (λ length. div_ceil length l.chunk) l.length-iterator ≡ sum_by (λ length. div_ceil length l.chunk) (values l.lengths);
  most : l.chunks ≤ l.cap;
}
