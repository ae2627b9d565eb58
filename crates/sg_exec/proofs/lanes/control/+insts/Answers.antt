use Rattle.std.proofs.Common.{◌≡◌, ℕ, ◌+◌, ℤ, to_z, of_z, w32, List, drop, rules, sym, ap, ◌∙◌, subst, arith}
use Rattle.std.specs.Prelude.{not, ◌==◌}
use Rattle.std.proofs.lemmas.Int.{to_z-of_z}
use mir.Val.{SFits}
use Rattle.sg_ir.specs.declared.code.Inst.{Inst}
use Rattle.sg_ir.specs.declared.code.Inst.TheVariants as v
use Rattle.sg_ir.specs.Runs.{does, runs, set_var_word, set_place, down}
use Rattle.sg_ir.proofs.Uses.{does-Child, does-HashChild, does-MaskBit, does-DynCell}
use Rattle.sg_flat.specs.Domain.{numbers}
use Rattle.sg_exec.specs.steps.Moments.{run_turns, AllMove}
use Rattle.sg_exec.specs.steps.Rows.{item_in, is_on, On}
use Rattle.sg_exec.proofs.Going.{goes_round, runs_next, runs_end, turns_next, turns_end}
use Rattle.sg_exec.proofs.SideBySide.{all_by, all_inst, all_start, all_next, all_end, all_then, branch_both, none_on}
use Rattle.sg_exec.proofs.lanes.control.+insts.Goals as goal

pub run-returns-in-Const : goal.run-returns-in-Const
run-returns-in-Const t c = all_inst _ _ c.in-Const.is _ _ _ c.constants.ensures

pub run-returns-in-Var : goal.run-returns-in-Var
run-returns-in-Var t c = all_inst _ _ c.in-Var.is _ _ _ c.variables.ensures

pub run-returns-in-Set : goal.run-returns-in-Set
run-returns-in-Set t c = all_inst _ _ c.in-Set.is _ _ _ c.assigns.ensures

pub run-returns-in-Bin : goal.run-returns-in-Bin
run-returns-in-Bin t c = all_inst _ _ c.in-Bin.is _ _ _ c.binaries.ensures

pub run-returns-in-Un : goal.run-returns-in-Un
run-returns-in-Un t c = all_inst _ _ c.in-Un.is _ _ _ c.unaries.ensures

pub run-returns-in-Mulq : goal.run-returns-in-Mulq
run-returns-in-Mulq t c = all_inst _ _ c.in-Mulq.is _ _ _ c.products.ensures

pub run-returns-in-Root : goal.run-returns-in-Root
run-returns-in-Root t c = all_inst _ _ c.in-Root.is _ _ _ c.roots.ensures

pub run-returns-in-Check : goal.run-returns-in-Check
run-returns-in-Check t c = all_inst _ _ c.in-Check.is _ _ _ c.checks.ensures

pub run-returns-in-Extract : goal.run-returns-in-Extract
run-returns-in-Extract t c = all_inst _ _ c.in-Extract.is _ _ _ c.extracts.ensures

pub run-returns-in-Offset : goal.run-returns-in-Offset
run-returns-in-Offset t c = all_inst _ _ c.in-Offset.is _ _ _ c.offsets.ensures

pub run-returns-in-OwnRead : goal.run-returns-in-OwnRead
run-returns-in-OwnRead t c = all_inst _ _ c.in-OwnRead.is _ _ _ c.own_reads.ensures

pub run-returns-in-OwnWrite : goal.run-returns-in-OwnWrite
run-returns-in-OwnWrite t c = all_inst _ _ c.in-OwnWrite.is _ _ _ c.own_writes.ensures

pub run-returns-in-Child : goal.run-returns-in-Child
run-returns-in-Child t c =
    all_inst _ _ c.in-Child.is _ _ _
    (all_by (λ seen now. set_place c.in-Child.to (now.roots c.in-Child.place) (down seen.shapes c.in-Child.node (now.regs c.in-Child.offset) (now.places c.in-Child.place)) now) _
    (λ seen now. sym (does-Child seen c.in-Child.to c.in-Child.place c.in-Child.node c.in-Child.offset now)) _ _ _ c.steps.ensures)

pub run-returns-in-HashChild : goal.run-returns-in-HashChild
run-returns-in-HashChild t c =
    all_inst _ _ c.in-HashChild.is _ _ _
    (all_by (λ seen now. set_place c.in-HashChild.to (now.roots c.in-HashChild.place) (down seen.shapes c.in-HashChild.node (now.regs c.in-HashChild.offset) (now.places c.in-HashChild.place)) now) _
    (λ seen now. sym (does-HashChild seen c.in-HashChild.to c.in-HashChild.place c.in-HashChild.node c.in-HashChild.offset now)) _ _ _ c.steps-in-HashChild.ensures)

pub run-returns-in-MaskBit : goal.run-returns-in-MaskBit
run-returns-in-MaskBit t c =
    all_inst _ _ c.in-MaskBit.is _ _ _
    (all_by (λ seen now. set_place c.in-MaskBit.to (now.roots c.in-MaskBit.place) (down seen.shapes c.in-MaskBit.node (now.regs c.in-MaskBit.offset) (now.places c.in-MaskBit.place)) now) _
    (λ seen now. sym (does-MaskBit seen c.in-MaskBit.to c.in-MaskBit.place c.in-MaskBit.node c.in-MaskBit.offset now)) _ _ _ c.steps-in-MaskBit.ensures)

pub run-returns-in-DynCell : goal.run-returns-in-DynCell
run-returns-in-DynCell t c =
    all_inst _ _ c.in-DynCell.is _ _ _
    (all_by (λ seen now. set_place c.in-DynCell.to (now.roots c.in-DynCell.place) (down seen.shapes c.in-DynCell.node (now.regs c.in-DynCell.offset) (now.places c.in-DynCell.place)) now) _
    (λ seen now. sym (does-DynCell seen c.in-DynCell.to c.in-DynCell.place c.in-DynCell.node c.in-DynCell.offset now)) _ _ _ c.steps-in-DynCell.ensures)

pub run-returns-in-ReadCell : goal.run-returns-in-ReadCell
run-returns-in-ReadCell t c =
    all_inst _ _ (c.in-ReadCell.is ∙ ap (λ (index : List ℕ). v.ReadCell c.in-ReadCell.to c.in-ReadCell.place c.in-ReadCell.layout c.in-ReadCell.field index) (sym c.as_slice.ensures)) _ _ _ c.reads.ensures

pub run-returns-in-IsActive : goal.run-returns-in-IsActive
run-returns-in-IsActive t c =
    all_inst _ _ (c.in-IsActive.is ∙ ap (λ (index : List ℕ). v.IsActive c.in-IsActive.to c.in-IsActive.place index) (sym c.as_slice-in-IsActive.ensures)) _ _ _ c.asks.ensures

pub run-returns-in-Acc : goal.run-returns-in-Acc
run-returns-in-Acc t c =
    all_inst _ _ (c.in-Acc.is ∙ ap (λ (index : List ℕ). v.Acc c.in-Acc.op c.in-Acc.layout c.in-Acc.field c.in-Acc.place c.in-Acc.from index c.in-Acc.stmt) (sym c.as_slice-in-Acc.ensures)) _ _ _ c.contributions.ensures

pub run-returns-in-Want : goal.run-returns-in-Want
run-returns-in-Want t c =
    all_inst _ _ (c.in-Want.is ∙ ap (λ (index : List ℕ). v.Want c.in-Want.layout index c.in-Want.stmt) (sym c.as_slice-in-Want.ensures)) _ _ _ c.wants.ensures

pub run_all-loop-inst-preserved : goal.run_all-loop-inst-preserved
run_all-loop-inst-preserved t c =
    all_next (λ seen. does seen c.inst-item.result) (λ seen. runs seen (drop c.loop-inst.inst-index c.args.block.now)) (λ seen. runs seen (drop (c.loop-inst.inst-index + 1) c.args.block.now)) (λ seen. runs seen c.args.block.now)
    (λ seen. runs_next seen c.args.block.now c.loop-inst.inst-index c.inst-item.result (omega arith) c.inst-item.is) (On c.args.columns.now.on) _ _ _ c.loop-inst.invariant c.run.ensures

pub run_all-returns : goal.run_all-returns
run_all-returns t c =
    all_end (λ seen. runs seen (drop c.loop-inst.inst-index c.args.block.now)) (λ seen. runs seen c.args.block.now) (λ seen. runs_end seen c.args.block.now c.loop-inst.inst-index (omega arith)) (On c.args.columns.now.on) _ _ c.loop-inst.invariant

pub run_all-loop-inst-init : goal.run_all-loop-inst-init
run_all-loop-inst-init t c = all_start (λ seen. runs seen c.args.block.now) (On c.args.columns.now.on) _

pub run-returns-in-If : goal.run-returns-in-If
run-returns-in-If t c =
    all_inst c.args.inst.now (v.If c.in-If.cond c.in-If.yes c.in-If.no) c.in-If.is (On c.args.columns.now.on) c.args.batch.now c.run_all-in-If.new.batch
    (branch_both c.in-If.cond c.in-If.yes c.in-If.no (is_on c.args.columns.now.on) (is_on c.where_set.result.on) (is_on c.where_zero.result.on) (is_on c.row_or_zero-decides.result) c.args.batch.now c.run_all.new.batch c.run_all-in-If.new.batch
    c.where_set.ensures c.where_zero.ensures
    (λ k small. ap (λ (x : ℕ). not (x == 0)) (c.row_or_zero-decides.ensures k small ∙ ap (λ (items : List ℕ). item_in items 0 k c.in-If.cond) c.as_slice-in-If.ensures.value))
    (subst (λ (insts : List Inst). AllMove (λ seen. runs seen insts) (On c.where_set.result.on) c.args.batch.now c.run_all.new.batch) c.as_slice-in-If-2.ensures c.run_all.ensures)
    (subst (λ (insts : List Inst). AllMove (λ seen. runs seen insts) (On c.where_zero.result.on) c.run_all.new.batch c.run_all-in-If.new.batch) c.as_slice-in-If-3.ensures c.run_all-in-If.ensures))

pub run_all-returns-then-not-has_some : goal.run_all-returns-then-not-has_some
run_all-returns-then-not-has_some t c = none_on (λ seen. runs seen c.args.block.now) (On c.args.columns.now.on) c.args.batch.now (c.has_some.ensures c.if-not-has_some.true)

pub run-returns-in-For : goal.run-returns-in-For
run-returns-in-For t c =
    let lo : SFits w32 c.in-For.lo = search rules in
    let hi : SFits w32 c.in-For.hi = search rules in
    all_by _ _
    (λ seen now.
    ap (λ (block : List Inst). run_turns seen c.in-For.var block now (numbers (to_z w32 (of_z w32 c.in-For.lo)) (to_z w32 (of_z w32 c.in-For.hi)))) c.as_slice-in-For.ensures
    ∙ ap (λ (from : ℤ). run_turns seen c.in-For.var c.in-For.body now (numbers from (to_z w32 (of_z w32 c.in-For.hi)))) (to_z-of_z w32 c.in-For.lo lo)
    ∙ ap (λ (to : ℤ). run_turns seen c.in-For.var c.in-For.body now (numbers c.in-For.lo to)) (to_z-of_z w32 c.in-For.hi hi)
    ∙ goes_round seen now c.args.inst.now c.in-For.var c.in-For.lo c.in-For.hi c.in-For.body c.in-For.is) _ _ _ c.run_turns.ensures

pub run_turns-loop-k-preserved : goal.run_turns-loop-k-preserved
run_turns-loop-k-preserved t c =
    let lo = to_z w32 (of_z w32 c.args.lo) in
    let hi = to_z w32 (of_z w32 c.args.hi) in
    all_next (λ seen mid. runs seen c.args.body.now (set_var_word c.args.var c.turn_word.result mid)) (λ seen mid. run_turns seen c.args.var c.args.body.now mid (drop c.loop-k.k (numbers lo hi)))
    (λ seen mid. run_turns seen c.args.var c.args.body.now mid (drop (c.loop-k.k + 1) (numbers lo hi))) (λ seen now. run_turns seen c.args.var c.args.body.now now (numbers lo hi))
    (λ seen mid. turns_next seen c.args.var c.args.body.now lo hi c.loop-k.k (omega arith) mid
    ∙ ap (λ (turn : ℕ). run_turns seen c.args.var c.args.body.now (runs seen c.args.body.now (set_var_word c.args.var turn mid)) (drop (c.loop-k.k + 1) (numbers lo hi))) (sym c.turn_word.ensures)) (On c.args.columns.now.on) _ _ _ c.loop-k.invariant
    (all_then (λ seen. set_var_word c.args.var c.turn_word.result) (λ seen. runs seen c.args.body.now) _ _ _ _ c.set_vars.ensures c.run_all.ensures)

pub run_turns-returns : goal.run_turns-returns
run_turns-returns t c =
    let lo : SFits w32 c.args.lo = search rules in
    let hi : SFits w32 c.args.hi = search rules in
    all_by _ _
    (λ seen now.
    ap (λ (from : ℤ). run_turns seen c.args.var c.args.body.now now (numbers from (to_z w32 (of_z w32 c.args.hi)))) (to_z-of_z w32 c.args.lo lo)
    ∙ ap (λ (to : ℤ). run_turns seen c.args.var c.args.body.now now (numbers c.args.lo to)) (to_z-of_z w32 c.args.hi hi)) _ _ _
    (all_end (λ seen mid. run_turns seen c.args.var c.args.body.now mid (drop c.loop-k.k (numbers (to_z w32 (of_z w32 c.args.lo)) (to_z w32 (of_z w32 c.args.hi)))))
    (λ seen now. run_turns seen c.args.var c.args.body.now now (numbers (to_z w32 (of_z w32 c.args.lo)) (to_z w32 (of_z w32 c.args.hi))))
    (λ seen. turns_end seen c.args.var c.args.body.now (to_z w32 (of_z w32 c.args.lo)) (to_z w32 (of_z w32 c.args.hi)) c.loop-k.k (omega arith)) (On c.args.columns.now.on) _ _ c.loop-k.invariant)

pub run_turns-loop-k-init : goal.run_turns-loop-k-init
run_turns-loop-k-init t c = all_start (λ seen mid. run_turns seen c.args.var c.args.body.now mid (numbers (to_z w32 (of_z w32 c.args.lo)) (to_z w32 (of_z w32 c.args.hi)))) (On c.args.columns.now.on) _
