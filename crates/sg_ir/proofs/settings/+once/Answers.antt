use Rattle.std.proofs.Common.{List, sym, ap, ◌∙◌}
use Rattle.std.specs.List.{list_all}
use Rattle.sg_ir.specs.declared.code.Inst.{Inst}
use Rattle.sg_ir.specs.WellTyped.{settings}
use Rattle.sg_ir.specs.steps.Targets.{inst_once}
use Rattle.sg_ir.proofs.Counting.{once-If, once-For, and-both, and-no}
use Rattle.sg_ir.proofs.settings.+once.Goals as goal

pub is_once-returns-then-are_once : goal.is_once-returns-then-are_once
is_once-returns-then-are_once t c =
    let all = settings c.args.whole.now in
    let once = λ (block : List Inst). list_all (inst_once all) block in
    let e = once-If all c.args.inst.now c.in-If._cond c.in-If.yes c.in-If.no c.in-If.is in
    let first = sym (ap once c.as_slice.ensures) ∙ sym c.are_once.ensures ∙ c.if-are_once.true in
    c.are_once-then-are_once.ensures ∙ ap once c.as_slice-then-are_once.ensures ∙ and-both _ _ _ e first

pub is_once-returns-else-are_once : goal.is_once-returns-else-are_once
is_once-returns-else-are_once t c =
    let all = settings c.args.whole.now in
    let once = λ (block : List Inst). list_all (inst_once all) block in
    let e = once-If all c.args.inst.now c.in-If._cond c.in-If.yes c.in-If.no c.in-If.is in
    let first = sym (ap once c.as_slice.ensures) ∙ sym c.are_once.ensures ∙ c.if-are_once.false in
    c.if-are_once.false ∙ sym (and-no _ _ _ e first)

pub is_once-returns-in-For : goal.is_once-returns-in-For
is_once-returns-in-For t c =
    let all = settings c.args.whole.now in
    let once = λ (block : List Inst). list_all (inst_once all) block in
    c.are_once-in-For.ensures ∙ ap once c.as_slice-in-For.ensures ∙ sym (once-For all c.args.inst.now c.in-For._var c.in-For._lo c.in-For._hi c.in-For.body c.in-For.is)
