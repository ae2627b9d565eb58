use Rattle.std.proofs.Common.{ℕ, List, None, inl, take, refl, sym, subst, arith}
use Rattle.std.specs.List.{flat_map}
use Rattle.std.proofs.lemmas.List.{take_all}
use Rattle.sg_ir.specs.declared.code.Inst.{Inst}
use Rattle.sg_ir.specs.Touches.{layout_written, written_by}
use Rattle.sg_batch.specs.steps.Next.{IsNext}
use Rattle.sg_batch.proofs.Finding.{next_nothing}
use Rattle.sg_batch.proofs.TextLayouts.{flat_more, next_if, next_for, named_want, named_write, named_acc, named_else}
use Rattle.sg_batch.proofs.touching.+finding.Goals as goal

pub next_in-loop-inst-init : goal.next_in-loop-inst-init
next_in-loop-inst-init t c = next_nothing c.args.from

pub next_in-loop-inst-preserved : goal.next_in-loop-inst-preserved
next_in-loop-inst-preserved t c =
    subst (λ (list : List ℕ). IsNext list c.args.from c.lesser-least.result) (sym (flat_more written_by c.args.block.now c.loop-inst.inst-index c.inst-item.result c.inst-item.result (omega arith) c.inst-item.is))
    (c.lesser-least.ensures (flat_map written_by (take c.loop-inst.inst-index c.args.block.now)) (written_by c.inst-item.result) c.args.from c.loop-inst.invariant c.next_of.ensures)

pub next_in-returns : goal.next_in-returns
next_in-returns t c =
    subst (λ (block : List Inst). IsNext (flat_map written_by block) c.args.from c.loop-inst.least) (take_all c.loop-inst.inst-index c.args.block.now (omega arith)) c.loop-inst.invariant

pub next_of-returns-in-Want : goal.next_of-returns-in-Want
next_of-returns-in-Want t c = subst (λ (list : List ℕ). IsNext list c.args.from c.not_below.result) (sym (named_want layout_written c.args.inst.now _ _ _ c.in-Want.is)) c.not_below.ensures

pub next_of-returns-in-OwnWrite : goal.next_of-returns-in-OwnWrite
next_of-returns-in-OwnWrite t c =
    subst (λ (list : List ℕ). IsNext list c.args.from c.not_below-in-OwnWrite.result) (sym (named_write layout_written c.args.inst.now _ _ _ _ c.in-OwnWrite.is)) c.not_below-in-OwnWrite.ensures

pub next_of-returns-in-Acc : goal.next_of-returns-in-Acc
next_of-returns-in-Acc t c =
    subst (λ (list : List ℕ). IsNext list c.args.from c.not_below-in-Acc.result) (sym (named_acc layout_written c.args.inst.now _ _ _ _ _ _ _ c.in-Acc.is)) c.not_below-in-Acc.ensures

pub next_of-returns-in-If : goal.next_of-returns-in-If
next_of-returns-in-If t c =
    next_if c.args.inst.now _ _ _ c.in-If.is c.as_slice.result.now c.as_slice-in-If.result.now c.args.from c.lesser.result c.as_slice.ensures c.as_slice-in-If.ensures
    (c.lesser.ensures (flat_map written_by c.as_slice.result.now) (flat_map written_by c.as_slice-in-If.result.now) c.args.from c.next_in.ensures c.next_in-in-If.ensures)

pub next_of-returns-in-For : goal.next_of-returns-in-For
next_of-returns-in-For t c = next_for c.args.inst.now _ _ _ _ c.in-For.is c.as_slice-in-For.result.now c.args.from c.next_in-in-For.result c.as_slice-in-For.ensures c.next_in-in-For.ensures

pub next_of-returns-in_default : goal.next_of-returns-in_default
next_of-returns-in_default t c =
    subst (λ (list : List ℕ). IsNext list c.args.from None)
    (sym (named_else layout_written c.args.inst.now (λ layout field. inl refl) (λ layout field. inl refl) c.in_default.not-Want c.in_default.not-OwnWrite c.in_default.not-Acc c.in_default.not-If c.in_default.not-For))
    (next_nothing c.args.from)
