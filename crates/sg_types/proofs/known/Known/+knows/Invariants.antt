use Rattle.std.proofs.Common.{◌≡◌, drop}
use Rattle.std.specs.List.{list_all}
use Rattle.sg_types.specs.Expressions.{knows}
use Rattle.sg_types.specs.steps.Views.{known_view}
use Rattle.sg_types.proofs.known.Known.+knows.Given as goal

abbrev pub invariant-knows_all-loop-expr : goal.invariant-knows_all-loop-expr
invariant-knows_all-loop-expr l =
    list_all (knows (known_view l.self) l.scope) (drop l.expr-index l.exprs) ≡ list_all (knows (known_view l.self) l.scope) l.exprs
