use Rattle.std.proofs.Common.{◌≡◌, ◌≤◌, true, drop, length, []}
use Rattle.sg_ast.specs.Limits.{most_tokens}
use Rattle.sg_session.specs.steps.Taking.{are_declared, with_items}
use Rattle.sg_session.proofs.layouts.checked_layouts.Given as goal

abbrev pub invariant-loop-item : goal.invariant-loop-item
invariant-loop-item l = record {
  rest : with_items l.names l.list (drop l.item-index l.items) ≡ with_items l.names [] l.items;
  declared : are_declared l.names (drop l.item-index l.items) ≡ true;
  count : length l.list ≤ l.item-index;
  few : length l.items ≤ most_tokens;
}
