use Rattle.std.proofs.Common.{ℕ, List, Bool, sym, ap, ◌∙◌}
use Rattle.sg_ir.specs.WellTyped.{Scope, inst_fits}
use Rattle.sg_ir.specs.declared.code.Inst.TheOpen as i
use Rattle.sg_ir.specs.steps.Frames.{frame_in, scope_in, is_good}
use Rattle.sg_ir.proofs.Judging.{judges-Var, judges-Set, judges-Bin, judges-Un, judges-Mulq, judges-Check, judges-Extract, judges-Offset, judges-Child, judges-HashChild, judges-MaskBit, judges-DynCell, judges-IsActive, judges-OwnWrite, judges-Acc}
use Rattle.sg_ir.proofs.typing.Typing.plain_fits.Goals as goal

pub returns-in-Var : goal.returns-in-Var
returns-in-Var c =
    let good = λ (reached : Bool × Scope). reached.0 in
    let e = ap (is_good c.args.self.now c.args.before.now) c.in-Var.is ∙ ap good (judges-Var (frame_in c.args.self.now) c.in-Var.to c.in-Var.var (scope_in c.args.self.now c.args.before.now)) in
    c.var_fits.ensures ∙ sym e

pub returns-in-Set : goal.returns-in-Set
returns-in-Set c =
    let good = λ (reached : Bool × Scope). reached.0 in
    let e = ap (is_good c.args.self.now c.args.before.now) c.in-Set.is ∙ ap good (judges-Set (frame_in c.args.self.now) c.in-Set.var c.in-Set.from (scope_in c.args.self.now c.args.before.now)) in
    c.set_fits.ensures ∙ sym e

pub returns-in-Bin : goal.returns-in-Bin
returns-in-Bin c =
    let good = λ (reached : Bool × Scope). reached.0 in
    let e = ap (is_good c.args.self.now c.args.before.now) c.in-Bin.is ∙ ap good (judges-Bin (frame_in c.args.self.now) c.in-Bin.to c.in-Bin.op c.in-Bin._ty c.in-Bin.a c.in-Bin.b (scope_in c.args.self.now c.args.before.now)) in
    c.bin_fits.ensures c.in-Bin._ty ∙ sym e

pub returns-in-Un : goal.returns-in-Un
returns-in-Un c =
    let good = λ (reached : Bool × Scope). reached.0 in
    let e = ap (is_good c.args.self.now c.args.before.now) c.in-Un.is ∙ ap good (judges-Un (frame_in c.args.self.now) c.in-Un.to c.in-Un.op c.in-Un._ty c.in-Un.a (scope_in c.args.self.now c.args.before.now)) in
    c.un_fits.ensures c.in-Un._ty ∙ sym e

pub returns-in-Mulq : goal.returns-in-Mulq
returns-in-Mulq c =
    let good = λ (reached : Bool × Scope). reached.0 in
    let e = ap (is_good c.args.self.now c.args.before.now) c.in-Mulq.is ∙ ap good (judges-Mulq (frame_in c.args.self.now) c.in-Mulq.to c.in-Mulq.a c.in-Mulq.b c.in-Mulq.s (scope_in c.args.self.now c.args.before.now)) in
    c.mulq_fits.ensures ∙ sym e

pub returns-in-Check : goal.returns-in-Check
returns-in-Check c =
    let good = λ (reached : Bool × Scope). reached.0 in
    let e = ap (is_good c.args.self.now c.args.before.now) c.in-Check.is ∙ ap good (judges-Check (frame_in c.args.self.now) c.in-Check.to c.in-Check.place c.in-Check.axis c.in-Check.extent c.in-Check.index (scope_in c.args.self.now c.args.before.now)) in
    c.check_fits.ensures ∙ sym e

pub returns-in-Extract : goal.returns-in-Extract
returns-in-Extract c =
    let good = λ (reached : Bool × Scope). reached.0 in
    let e = ap (is_good c.args.self.now c.args.before.now) c.in-Extract.is ∙ ap good (judges-Extract (frame_in c.args.self.now) c.in-Extract.to c.in-Extract.div c.in-Extract.size c.in-Extract.from (scope_in c.args.self.now c.args.before.now)) in
    c.extract_fits.ensures ∙ sym e

pub returns-in-Offset : goal.returns-in-Offset
returns-in-Offset c =
    let good = λ (reached : Bool × Scope). reached.0 in
    let e = ap (is_good c.args.self.now c.args.before.now) c.in-Offset.is ∙ ap good (judges-Offset (frame_in c.args.self.now) c.in-Offset.to c.in-Offset.high c.in-Offset.size c.in-Offset.low (scope_in c.args.self.now c.args.before.now)) in
    c.offset_fits.ensures ∙ sym e

pub returns-in-Child : goal.returns-in-Child
returns-in-Child c =
    let good = λ (reached : Bool × Scope). reached.0 in
    let e = ap (is_good c.args.self.now c.args.before.now) c.in-Child.is ∙ ap good (judges-Child (frame_in c.args.self.now) c.in-Child.to c.in-Child.place c.in-Child.node c.in-Child.offset (scope_in c.args.self.now c.args.before.now)) in
    c.step_fits.ensures ∙ sym e

pub returns-in-HashChild : goal.returns-in-HashChild
returns-in-HashChild c =
    let good = λ (reached : Bool × Scope). reached.0 in
    let e = ap (is_good c.args.self.now c.args.before.now) c.in-HashChild.is ∙ ap good (judges-HashChild (frame_in c.args.self.now) c.in-HashChild.to c.in-HashChild.place c.in-HashChild.node c.in-HashChild.offset (scope_in c.args.self.now c.args.before.now)) in
    c.step_fits-in-HashChild.ensures ∙ sym e

pub returns-in-MaskBit : goal.returns-in-MaskBit
returns-in-MaskBit c =
    let good = λ (reached : Bool × Scope). reached.0 in
    let e = ap (is_good c.args.self.now c.args.before.now) c.in-MaskBit.is ∙ ap good (judges-MaskBit (frame_in c.args.self.now) c.in-MaskBit.to c.in-MaskBit.place c.in-MaskBit.node c.in-MaskBit.offset (scope_in c.args.self.now c.args.before.now)) in
    c.step_fits-in-MaskBit.ensures ∙ sym e

pub returns-in-DynCell : goal.returns-in-DynCell
returns-in-DynCell c =
    let good = λ (reached : Bool × Scope). reached.0 in
    let e = ap (is_good c.args.self.now c.args.before.now) c.in-DynCell.is ∙ ap good (judges-DynCell (frame_in c.args.self.now) c.in-DynCell.to c.in-DynCell.place c.in-DynCell.node c.in-DynCell.offset (scope_in c.args.self.now c.args.before.now)) in
    c.step_fits-in-DynCell.ensures ∙ sym e

pub returns-in-IsActive : goal.returns-in-IsActive
returns-in-IsActive c =
    let good = λ (reached : Bool × Scope). reached.0 in
    let e = ap (is_good c.args.self.now c.args.before.now) c.in-IsActive.is ∙ ap good (judges-IsActive (frame_in c.args.self.now) c.in-IsActive.to c.in-IsActive.place c.in-IsActive.index (scope_in c.args.self.now c.args.before.now)) in
    let by_index = λ (index : List ℕ). (inst_fits (frame_in c.args.self.now) (i.IsActive c.in-IsActive.to c.in-IsActive.place index) (scope_in c.args.self.now c.args.before.now)).0 in
    c.active_fits.ensures ∙ ap by_index c.as_slice-in-IsActive.ensures ∙ sym e

pub returns-in-OwnWrite : goal.returns-in-OwnWrite
returns-in-OwnWrite c =
    let good = λ (reached : Bool × Scope). reached.0 in
    let e = ap (is_good c.args.self.now c.args.before.now) c.in-OwnWrite.is ∙ ap good (judges-OwnWrite (frame_in c.args.self.now) c.in-OwnWrite.layout c.in-OwnWrite.field c.in-OwnWrite.from c.in-OwnWrite._stmt (scope_in c.args.self.now c.args.before.now)) in
    c.own_write_fits.ensures c.in-OwnWrite._stmt ∙ sym e

pub returns-in-Acc : goal.returns-in-Acc
returns-in-Acc c =
    let good = λ (reached : Bool × Scope). reached.0 in
    let e = ap (is_good c.args.self.now c.args.before.now) c.in-Acc.is ∙ ap good (judges-Acc (frame_in c.args.self.now) c.in-Acc._op c.in-Acc.layout c.in-Acc.field c.in-Acc.place c.in-Acc.from c.in-Acc.index c.in-Acc._stmt (scope_in c.args.self.now c.args.before.now)) in
    let by_index = λ (index : List ℕ). (inst_fits (frame_in c.args.self.now) (i.Acc c.in-Acc._op c.in-Acc.layout c.in-Acc.field c.in-Acc.place c.in-Acc.from index c.in-Acc._stmt) (scope_in c.args.self.now c.args.before.now)).0 in
    c.acc_fits.ensures c.in-Acc._op c.in-Acc._stmt ∙ ap by_index c.as_slice-in-Acc.ensures ∙ sym e
