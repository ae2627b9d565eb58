use Rattle.std.proofs.Common.{◌≡◌, ℕ, ◌+◌, ◌<◌, length, drop}
use Rattle.std.specs.Prelude.{slice_index}
use Rattle.sg_links.specs.steps.Rows.{IsPath, list_at}
use Rattle.sg_links.proofs.order.lay.Given as goal

abbrev pub invariant-loop-step : goal.invariant-loop-step
invariant-loop-step l = record {
  path : IsPath l.next l.number (drop l.step (list_at l.next l.heads l.head)) (length l.next);
  laid : (k : ℕ) → k < l.step → slice_index l.order (l.start + k) ≡ slice_index (list_at l.next l.heads l.head) k;
  front : (k : ℕ) → k < l.start → slice_index l.order k ≡ slice_index l.fn.order k;
  long : length l.order ≡ length l.fn.order;
}
