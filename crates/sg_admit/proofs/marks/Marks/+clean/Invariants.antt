use Rattle.std.proofs.Common.{◌≡◌, drop}
use Rattle.std.specs.List.{list_all}
use Rattle.sg_admit.specs.Clean.{is_clean}
use Rattle.sg_admit.specs.steps.Marked.{unclean_of}
use Rattle.sg_admit.proofs.marks.Marks.+clean.Given as goal

abbrev pub invariant-all_clean-loop-expr : goal.invariant-all_clean-loop-expr
invariant-all_clean-loop-expr l = list_all (is_clean (unclean_of l.self)) (drop l.expr-index l.exprs) ≡ list_all (is_clean (unclean_of l.self)) l.exprs
