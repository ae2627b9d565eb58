use Rattle.std.proofs.Common.{◌≡◌, ◌++◌, ◌+◌, take, Some, List, arith, OnSome, sym, ap, ◌∙◌, subst}
use Rattle.std.proofs.lemmas.Grind.{common_steps}
use Rattle.sg_ir.specs.declared.code.Inst.{Inst}
use Rattle.sg_ir.specs.WellTyped.{settings}
use Rattle.sg_ir.specs.steps.Targets.{ascends, inst_settings}
use Rattle.sg_ir.proofs.Counting.{ascends-If, ascends-For, ascends-both}
use Rattle.sg_ir.proofs.settings.+ascend.Goals as goal

pub ascend-loop-inst-preserved : goal.ascend-loop-inst-preserved
ascend-loop-inst-preserved t c =
    let xs = c.args.block.now in
    let i = c.loop-inst.inst-index in
    let e : settings (take (i + 1) xs) ≡ settings (take i xs) ++ inst_settings c.inst-item.result = grind (arith, common_steps) in
    let one : ascends c.loop-inst.next (inst_settings c.inst-item.result) ≡ Some c.in_ok-next.next = c.in_ok-next.ensures in
    ap (ascends c.args.from) e ∙ ascends-both c.args.from (settings (take i xs)) (inst_settings c.inst-item.result) c.loop-inst.next (Some c.in_ok-next.next) c.loop-inst.invariant one

pub ascend_inst-returns-in_ok-next-in-If : goal.ascend_inst-returns-in_ok-next-in-If
ascend_inst-returns-in_ok-next-in-If t c =
    let first : ascends c.args.from (settings c.as_slice.result.now) ≡ Some c.in_ok-next-in-If.next = c.in_ok-next-in-If.ensures in
    let behind = λ (block : List Inst). OnSome c.ascend-in-If.result (ascends c.in_ok-next-in-If.next (settings block) ≡ c.ascend-in-If.result) in
    ascends-If c.args.from c.args.inst.now c.in-If._cond c.in-If.yes c.in-If.no c.in_ok-next-in-If.next c.ascend-in-If.result c.in-If.is
    (ap (λ (block : List Inst). ascends c.args.from (settings block)) (sym c.as_slice.ensures) ∙ first)
    (subst behind c.as_slice-in-If.ensures c.ascend-in-If.ensures)

pub ascend_inst-returns-in-For : goal.ascend_inst-returns-in-For
ascend_inst-returns-in-For t c =
    let behind = λ (block : List Inst). OnSome c.ascend-in-For.result (ascends c.args.from (settings block) ≡ c.ascend-in-For.result) in
    ascends-For c.args.from c.args.inst.now c.in-For._var c.in-For._lo c.in-For._hi c.in-For.body c.ascend-in-For.result c.in-For.is
    (subst behind c.as_slice-in-For.ensures c.ascend-in-For.ensures)
