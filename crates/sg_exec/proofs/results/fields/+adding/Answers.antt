use Rattle.std.proofs.Common.{List, sym, ap, subst, arith}
use Rattle.std.proofs.lemmas.List.{take_all}
use Rattle.sg_ir.specs.declared.code.Inst.{Inst}
use Rattle.sg_ir.specs.Apt.{uses_in}
use Rattle.sg_exec.specs.steps.Landing.{current}
use Rattle.sg_exec.specs.steps.Passes.{AddsUses}
use Rattle.sg_exec.proofs.Going.{on_ok}
use Rattle.sg_exec.proofs.FieldsFound.{uses_acc, uses_own, uses_if, uses_for, adds_as, adds_both, adds_next, adds_quiet}
use Rattle.sg_exec.proofs.results.fields.+adding.Goals as goal

pub add-returns-in-Acc : goal.add-returns-in-Acc
add-returns-in-Acc g t c =
    let mids = current c.args.reached.now c.args.stores.now.list in
    on_ok _ _ c.add_pass.result (adds_as mids _ _ c.args.fields.now c.add_pass.new.fields (sym (uses_acc c.args.inst.now _ _ _ _ _ _ _ c.in-Acc.is))) c.add_pass.ensures

pub add-returns-in-OwnWrite : goal.add-returns-in-OwnWrite
add-returns-in-OwnWrite g t c =
    let mids = current c.args.reached.now c.args.stores.now.list in
    on_ok _ _ c.add_owned.result (adds_as mids _ _ c.args.fields.now c.add_owned.new.fields (sym (uses_own c.args.inst.now _ _ _ _ c.in-OwnWrite.is))) c.add_owned.ensures

pub add-returns-in_ok-add_all-in-If : goal.add-returns-in_ok-add_all-in-If
add-returns-in_ok-add_all-in-If g t c =
    let mids = current c.args.reached.now c.args.stores.now.list in
    on_ok _ _ c.add_all-in-If.result
    (λ second. adds_as mids _ _ c.args.fields.now c.add_all-in-If.new.fields (sym (uses_if c.args.inst.now _ _ _ c.in-If.is))
    (adds_both mids _ _ c.args.fields.now c.add_all.new.fields c.add_all-in-If.new.fields
    (adds_as mids _ _ c.args.fields.now c.add_all.new.fields (ap uses_in c.as_slice.ensures) c.in_ok-add_all-in-If.ensures)
    (adds_as mids _ _ c.add_all.new.fields c.add_all-in-If.new.fields (ap uses_in c.as_slice-in-If.ensures) second)))
    c.add_all-in-If.ensures

pub add-returns-in-For : goal.add-returns-in-For
add-returns-in-For g t c =
    let mids = current c.args.reached.now c.args.stores.now.list in
    on_ok _ _ c.add_all-in-For.result
    (λ added. adds_as mids _ _ c.args.fields.now c.add_all-in-For.new.fields (sym (uses_for c.args.inst.now _ _ _ _ c.in-For.is))
    (adds_as mids _ _ c.args.fields.now c.add_all-in-For.new.fields (ap uses_in c.as_slice-in-For.ensures) added))
    c.add_all-in-For.ensures

pub add-returns-in_default : goal.add-returns-in_default
add-returns-in_default g t c =
    adds_quiet (current c.args.reached.now c.args.stores.now.list) c.args.inst.now c.args.fields.now c.in_default.not-Acc c.in_default.not-OwnWrite c.in_default.not-If c.in_default.not-For

pub add_all-loop-inst-preserved : goal.add_all-loop-inst-preserved
add_all-loop-inst-preserved g t c =
    adds_next (current c.args.reached.now c.args.stores.now.list) c.args.code.now c.loop-inst.inst-index _ c.inst-item.result c.args.fields.now c.loop-inst.fields c.add.new.fields (omega arith) c.inst-item.is c.loop-inst.invariant c.in_ok-add.ensures

pub add_all-returns : goal.add_all-returns
add_all-returns g t c =
    subst (λ (code : List Inst). AddsUses (current c.args.reached.now c.args.stores.now.list) (uses_in code) c.args.fields.now c.loop-inst.fields) (take_all c.loop-inst.inst-index c.args.code.now (omega arith)) c.loop-inst.invariant
