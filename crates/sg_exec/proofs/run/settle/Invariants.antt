use Rattle.std.proofs.Common.{◌≡◌, ℕ, ◌<◌, Some, None, length}
use Rattle.std.specs.Prelude.{slice_get}
use Rattle.sg_exec.specs.steps.Landing.{current}
use Rattle.sg_exec.proofs.run.settle.Given as goal

abbrev pub invariant-loop-number : goal.invariant-loop-number
invariant-loop-number l = record {
  count : length l.copies.items ≡ length l.fn.stores.list;
  long : length l.stores.list ≡ length l.fn.stores.list;
  same : current l.copies.items l.stores.list ≡ current l.fn.copies.items l.fn.stores.list;
  none : (j : ℕ) → j < l.number → slice_get l.copies.items j ≡ Some None;
}
