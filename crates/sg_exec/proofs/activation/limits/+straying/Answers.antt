use Rattle.std.proofs.Common.{List, sym, ap, subst, arith, ◌∙◌}
use Rattle.sg_ir.specs.declared.code.Inst.{Inst}
use Rattle.sg_exec.specs.steps.Limiting.{binds, BlockIsLimited, WantsIdle}
use Rattle.sg_exec.proofs.Limited.{keeps_limits, want_limited, if_limited, for_limited, block_next, block_end}
use Rattle.sg_exec.proofs.activation.limits.+straying.Goals as goal

pub block_strays-loop-inst-preserved : goal.block_strays-loop-inst-preserved
block_strays-loop-inst-preserved t c = λ later.
    c.loop-inst.invariant (block_next c.args.stores.now.list c.args.limits.now c.args.block.now c.loop-inst.inst-index c.inst-item.result (omega arith) c.inst-item.is (c.inst_strays.ensures c.if-inst_strays.false) later)

pub block_strays-returns : goal.block_strays-returns
block_strays-returns t c = λ no. c.loop-inst.invariant (block_end c.args.stores.now.list c.args.limits.now c.args.block.now c.loop-inst.inst-index (omega arith))

pub inst_strays-returns-in-Want : goal.inst_strays-returns-in-Want
inst_strays-returns-in-Want t c = λ no.
    want_limited c.args.stores.now.list c.args.limits.now c.args.inst.now _ _ _ c.in-Want.is
    (subst (λ (index : List _). WantsIdle c.args.stores.now.list c.args.limits.now c.in-Want.layout index) c.as_slice.ensures (c.want_strays.ensures no))

pub inst_strays-returns-else-block_strays : goal.inst_strays-returns-else-block_strays
inst_strays-returns-else-block_strays t c = λ no.
    if_limited c.args.stores.now.list c.args.limits.now c.args.inst.now _ _ _ c.in-If.is
    (subst (λ (block : List Inst). BlockIsLimited c.args.stores.now.list c.args.limits.now block) c.as_slice-in-If.ensures (c.block_strays.ensures c.if-block_strays.false))
    (subst (λ (block : List Inst). BlockIsLimited c.args.stores.now.list c.args.limits.now block) c.as_slice-else-block_strays.ensures (c.block_strays-else-block_strays.ensures no))

pub inst_strays-returns-else-binds : goal.inst_strays-returns-else-binds
inst_strays-returns-else-binds t c = λ no.
    for_limited c.args.stores.now.list c.args.limits.now c.args.inst.now _ _ _ _ c.in-For.is (ap binds (sym c.var.ensures) ∙ sym c.binds.ensures ∙ c.if-binds.false)
    (subst (λ (block : List Inst). BlockIsLimited c.args.stores.now.list c.args.limits.now block) c.as_slice-else-binds.ensures (c.block_strays-else-binds.ensures no))

pub inst_strays-returns-in_default : goal.inst_strays-returns-in_default
inst_strays-returns-in_default t c = λ no. keeps_limits c.args.stores.now.list c.args.limits.now c.args.inst.now (sym c.sets_past.ensures ∙ no)
