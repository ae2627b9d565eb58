use Rattle.std.proofs.Common.{◌≡◌, drop, map}
use Rattle.sg_types.specs.Expressions.{typed_expr, all_some}
use Rattle.sg_types.specs.steps.Views.{known_view}
use Rattle.sg_types.proofs.AllSome.{with_front}
use Rattle.sg_types.proofs.known.Known.+typed.Given as goal

-- the typed expressions so far, and those of what is left, are those of the whole
abbrev pub invariant-typed_all-loop-expr : goal.invariant-typed_all-loop-expr
invariant-typed_all-loop-expr l =
    with_front l.typed (all_some (map (typed_expr (known_view l.self) l.scope) (drop l.expr-index l.exprs)))
    ≡ all_some (map (typed_expr (known_view l.self) l.scope) l.exprs)
