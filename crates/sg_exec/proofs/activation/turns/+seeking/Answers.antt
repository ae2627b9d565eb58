use Rattle.std.proofs.Common.{List, subst, arith}
use Rattle.sg_ir.specs.declared.code.Inst.{Inst}
use Rattle.sg_exec.specs.steps.Turning.{BlockSeeksNone}
use Rattle.sg_exec.proofs.Unwanted.{if_none, for_none, block_next, block_end}
use Rattle.sg_exec.proofs.activation.turns.+seeking.Goals as goal

pub block_seeks-loop-inst-preserved : goal.block_seeks-loop-inst-preserved
block_seeks-loop-inst-preserved t c = λ later.
    c.loop-inst.invariant (λ layout. block_next layout c.args.block.now c.loop-inst.inst-index c.inst-item.result (omega arith) c.inst-item.is (c.inst_seeks.ensures c.if-inst_seeks.false layout) (later layout))

pub block_seeks-returns : goal.block_seeks-returns
block_seeks-returns t c = λ no. c.loop-inst.invariant (λ layout. block_end layout c.args.block.now c.loop-inst.inst-index (omega arith))

pub inst_seeks-returns-else-block_seeks : goal.inst_seeks-returns-else-block_seeks
inst_seeks-returns-else-block_seeks t c = λ no layout.
    if_none layout c.args.inst.now _ _ _ c.in-If.is
    (subst (λ (block : List Inst). BlockSeeksNone block) c.as_slice.ensures (c.block_seeks.ensures c.if-block_seeks.false) layout)
    (subst (λ (block : List Inst). BlockSeeksNone block) c.as_slice-else-block_seeks.ensures (c.block_seeks-else-block_seeks.ensures no) layout)

pub inst_seeks-returns-in-For : goal.inst_seeks-returns-in-For
inst_seeks-returns-in-For t c = λ no layout.
    for_none layout c.args.inst.now _ _ _ _ c.in-For.is
    (subst (λ (block : List Inst). BlockSeeksNone block) c.as_slice-in-For.ensures (c.block_seeks-in-For.ensures no) layout)
