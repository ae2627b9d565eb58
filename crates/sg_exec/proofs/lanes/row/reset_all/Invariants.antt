use Rattle.std.proofs.Common.{◌≡◌, ℕ, ◌<◌, length, get_or}
use Rattle.sg_exec.proofs.lanes.row.reset_all.Given as goal

abbrev pub invariant-loop-place : goal.invariant-loop-place
invariant-loop-place g l = record {
  size : length l.items ≡ length l.fn.items;
  done : (number : ℕ) → number < l.place → get_or l.items number l.none ≡ l.none;
}
