use Rattle.std.proofs.Common.{sym, ap, ◌∙◌}
use Rattle.std.specs.List.{list_all}
use Rattle.sg_admit.specs.Clean.{is_clean}
use Rattle.sg_admit.specs.steps.Marked.{unclean_of}
use Rattle.sg_admit.proofs.CleanWords.{clean_active, clean_read}
use Rattle.sg_admit.proofs.marks.Marks.+clean.Goals as goal

pub is_clean-returns-then-not-writes : goal.is_clean-returns-then-not-writes
is_clean-returns-then-not-writes t c =
    let unclean = unclean_of c.args.self.now in
    c.all_clean.ensures
    ∙ (ap (list_all (is_clean unclean)) c.as_slice.ensures
    ∙ sym (clean_read unclean c.args.expr.now c.in-Read.layout c.in-Read.place c.in-Read.index c.in-Read.is (sym c.writes.ensures ∙ c.if-not-writes.true)))

pub is_clean-returns-in-Active : goal.is_clean-returns-in-Active
is_clean-returns-in-Active t c =
    let unclean = unclean_of c.args.self.now in
    c.all_clean-in-Active.ensures
    ∙ (ap (list_all (is_clean unclean)) c.as_slice-in-Active.ensures
    ∙ sym (clean_active unclean c.args.expr.now c.in-Active._layout c.in-Active.index c.in-Active.is))
