use Rattle.std.proofs.Common.{◌≡◌, drop}
use Rattle.sg_session.specs.CommandRules as spec
use Rattle.sg_session.proofs.rules.Judge.some_is_large.Given as goal

abbrev pub invariant-loop-command : goal.invariant-loop-command
invariant-loop-command l =
    spec.some_is_large l.self.names.now l.self.layouts.now.list (drop l.command-index l.body) ≡ spec.some_is_large l.self.names.now l.self.layouts.now.list l.body
