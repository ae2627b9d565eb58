use Rattle.std.proofs.Common.{◌≡◌, drop}
use Rattle.std.specs.List.{list_all}
use Rattle.sg_types.specs.Expressions.{counts}
use Rattle.sg_types.proofs.known.Known.+counts.Given as goal

abbrev pub invariant-counts_all-loop-expr : goal.invariant-counts_all-loop-expr
invariant-counts_all-loop-expr l =
    list_all (counts l.self.names.now) (drop l.expr-index l.exprs) ≡ list_all (counts l.self.names.now) l.exprs
