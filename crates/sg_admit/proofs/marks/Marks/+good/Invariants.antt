use Rattle.std.proofs.Common.{◌≡◌, drop}
use Rattle.std.specs.List.{list_all}
use Rattle.sg_admit.specs.Rules.{has_good_reads}
use Rattle.sg_admit.specs.steps.Marked.{marked_facts}
use Rattle.sg_admit.specs.steps.Reading.{good_by}
use Rattle.sg_admit.proofs.marks.Marks.+good.Given as goal

abbrev pub invariant-all_good-loop-expr : goal.invariant-all_good-loop-expr
invariant-all_good-loop-expr l =
    list_all (has_good_reads l.self.vars (good_by (marked_facts l.self) l.reading)) (drop l.expr-index l.exprs) ≡ list_all (has_good_reads l.self.vars (good_by (marked_facts l.self) l.reading)) l.exprs
