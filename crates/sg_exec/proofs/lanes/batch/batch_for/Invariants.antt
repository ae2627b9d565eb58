use Rattle.std.proofs.Common.{◌≡◌, ℕ, Some, length}
use Rattle.std.specs.Prelude.{slice_get}
use Rattle.sg_exec.specs.declared.lanes.moment.Moment.{Moment}
use Rattle.sg_exec.specs.steps.Landing.{current}
use Rattle.sg_exec.proofs.lanes.batch.batch_for.Given as goal

abbrev pub invariant-loop-number : goal.invariant-loop-number
invariant-loop-number l = record {
  long : length l.moments.items ≡ l._number;
  over : (k : ℕ) (moment : Moment) → slice_get l.moments.items k ≡ Some moment → moment.cells.stores ≡ current l.copies l.stores.list;
}
