use Rattle.std.proofs.Common.{Bool, ◌&&◌, refl, sym, ap, ◌∙◌}
use Rattle.std.specs.List.{list_all}
use Rattle.sg_admit.specs.Rules.{has_good_reads}
use Rattle.sg_admit.specs.steps.Marked.{marked_facts}
use Rattle.sg_admit.specs.steps.Reading.{good_by}
use Rattle.sg_admit.proofs.FaultWords.{read_good_is, asked_reads}
use Rattle.sg_admit.proofs.marks.Marks.+good.Goals as goal

pub good_reads-returns-then-is_good : goal.good_reads-returns-then-is_good
good_reads-returns-then-is_good t c =
    let vars = c.args.self.now.vars in
    let good = good_by (marked_facts c.args.self.now) c.args.reading in
    sym (read_good_is vars good c.args.expr.now c.in-Read.layout c.in-Read.place c.in-Read.index c.as_slice.result.now c.as_slice-then-is_good.result.now c.in-Read.is c.as_slice.ensures c.as_slice-then-is_good.ensures
    c.are_names-named.result c.is_good.result c.all_good.result c.are_names-named.ensures c.is_good.ensures c.all_good.ensures
    ∙ ap (λ (b : Bool). b && c.all_good.result) c.if-is_good.true)

pub good_reads-returns-else-is_good : goal.good_reads-returns-else-is_good
good_reads-returns-else-is_good t c =
    let vars = c.args.self.now.vars in
    let good = good_by (marked_facts c.args.self.now) c.args.reading in
    let rest = list_all (has_good_reads vars good) c.in-Read.index in
    (c.if-is_good.false ∙ sym (ap (λ (b : Bool). b && rest) c.if-is_good.false))
    ∙ sym (read_good_is vars good c.args.expr.now c.in-Read.layout c.in-Read.place c.in-Read.index c.as_slice.result.now c.in-Read.index c.in-Read.is c.as_slice.ensures refl
    c.are_names-named.result c.is_good.result rest c.are_names-named.ensures c.is_good.ensures refl)

pub good_reads-returns-in-Active : goal.good_reads-returns-in-Active
good_reads-returns-in-Active t c =
    let vars = c.args.self.now.vars in
    let good = good_by (marked_facts c.args.self.now) c.args.reading in
    c.all_good-in-Active.ensures
    ∙ (ap (list_all (has_good_reads vars good)) c.as_slice-in-Active.ensures
    ∙ sym (asked_reads vars good c.args.expr.now c.in-Active._layout c.in-Active.index c.in-Active.is))
