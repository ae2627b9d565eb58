use Rattle.std.proofs.Common.{◌||◌, take}
use Rattle.sg_admit.specs.steps.Hanging.{SpreadWhereTested, are_clean_by}
use Rattle.sg_admit.proofs.hangs.Links.+reads.Given as goal

abbrev pub invariant-hang_all-loop-expr : goal.invariant-hang_all-loop-expr
invariant-hang_all-loop-expr l = SpreadWhereTested (λ places. are_clean_by l.text places (take l.expr-index l.exprs) || places l.to) l.fn.self l.self
