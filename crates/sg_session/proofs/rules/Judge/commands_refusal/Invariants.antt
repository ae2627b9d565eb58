use Rattle.std.proofs.Common.{◌≡◌, ◌+◌, ◌≤◌, drop, length}
use Rattle.sg_ast.specs.Limits.{most_tokens}
use Rattle.sg_session.specs.CommandRules as spec
use Rattle.sg_session.proofs.rules.Judge.commands_refusal.Given as goal

abbrev pub invariant-loop-item : goal.invariant-loop-item
invariant-loop-item l = record {
  rest : spec.commands_refusal l.self.names.now l.self.layouts.now.list l.number (drop l.item-index l.items)
      ≡ spec.commands_refusal l.self.names.now l.self.layouts.now.list 1 l.items;
  count : l.number ≡ l.item-index + 1;
  few : length l.items ≤ most_tokens;
}
