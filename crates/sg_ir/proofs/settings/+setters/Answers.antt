use Rattle.std.proofs.Common.{ℕ, [], ◌∷◌, List, ap, ◌∙◌}
use Rattle.sg_ir.specs.declared.code.Inst.{Inst}
use Rattle.sg_ir.specs.WellTyped.{settings, SetsVar}
use Rattle.sg_ir.specs.steps.Targets.{set_times}
use Rattle.sg_ir.proofs.Counting.{times-If, times-For}
use Rattle.sg_ir.proofs.settings.+setters.Goals as goal

pub inst_setters-returns-in-If : goal.inst_setters-returns-in-If
inst_setters-returns-in-If t c =
    let times = λ (block : List Inst). set_times c.args.what (settings block) in
    times-If c.args.what _ c.in-If._cond c.in-If.yes c.in-If.no c.both.result c.setters.result c.setters-in-If.result c.in-If.is c.both.ensures (c.setters.ensures ∙ ap times c.as_slice.ensures) (c.setters-in-If.ensures ∙ ap times c.as_slice-in-If.ensures)

pub inst_setters-returns-in-For : goal.inst_setters-returns-in-For
inst_setters-returns-in-For t c =
    let one = λ (n : ℕ). set_times c.args.what (SetsVar n ∷ []) in
    let times = λ (block : List Inst). set_times c.args.what (settings block) in
    times-For c.args.what _ c.in-For.var c.in-For._lo c.in-For._hi c.in-For.body c.both-in-For.result c.one_if.result c.setters-in-For.result c.in-For.is c.both-in-For.ensures (c.one_if.ensures ∙ ap one c.from.ensures) (c.setters-in-For.ensures ∙ ap times c.as_slice-in-For.ensures)
