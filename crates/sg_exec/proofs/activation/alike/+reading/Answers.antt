use Rattle.std.proofs.Common.{List, sym, subst, arith, ◌∙◌}
use Rattle.sg_ir.specs.declared.code.Inst.{Inst}
use Rattle.sg_exec.specs.steps.Alike.{BlockIsAlike}
use Rattle.sg_exec.proofs.Pointless.{pointless_alike, if_alike, for_alike, block_next, block_end}
use Rattle.sg_exec.proofs.activation.alike.+reading.Goals as goal

pub block_reads_point-loop-inst-preserved : goal.block_reads_point-loop-inst-preserved
block_reads_point-loop-inst-preserved t c = λ later.
    c.loop-inst.invariant (block_next c.args.block.now c.loop-inst.inst-index c.inst-item.result (omega arith) c.inst-item.is (c.inst_reads_point.ensures c.if-inst_reads_point.false) later)

pub block_reads_point-returns : goal.block_reads_point-returns
block_reads_point-returns t c = λ no. c.loop-inst.invariant (block_end c.args.block.now c.loop-inst.inst-index (omega arith))

pub inst_reads_point-returns-else-block_reads_point : goal.inst_reads_point-returns-else-block_reads_point
inst_reads_point-returns-else-block_reads_point t c = λ no.
    if_alike c.args.inst.now _ _ _ c.in-If.is
    (subst (λ (block : List Inst). BlockIsAlike block) c.as_slice.ensures (c.block_reads_point.ensures c.if-block_reads_point.false))
    (subst (λ (block : List Inst). BlockIsAlike block) c.as_slice-else-block_reads_point.ensures (c.block_reads_point-else-block_reads_point.ensures no))

pub inst_reads_point-returns-in-For : goal.inst_reads_point-returns-in-For
inst_reads_point-returns-in-For t c = λ no.
    for_alike c.args.inst.now _ _ _ _ c.in-For.is
    (subst (λ (block : List Inst). BlockIsAlike block) c.as_slice-in-For.ensures (c.block_reads_point-in-For.ensures no))

pub inst_reads_point-returns-in_default : goal.inst_reads_point-returns-in_default
inst_reads_point-returns-in_default t c = λ no. pointless_alike c.args.inst.now (sym c.reads_point.ensures ∙ no)
