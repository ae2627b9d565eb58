use Rattle.std.proofs.Common.{List, subst, arith}
use Rattle.std.specs.Prelude.{Contains}
use Rattle.std.proofs.lemmas.Bool.{eqb-true}
use Rattle.sg_ir.specs.declared.code.Inst.{Inst}
use Rattle.sg_exec.specs.steps.Turning.{BlockWantsNone}
use Rattle.sg_ir.specs.Touches.{layouts_wanted}
use Rattle.sg_exec.proofs.Unwanted.{if_none, for_none, block_next, block_end}
use Rattle.sg_exec.proofs.WantedText.{want_text, if_first, if_second, for_text, item_text}
use Rattle.sg_exec.proofs.activation.turns.+wanting.Goals as goal

pub block_wants-loop-inst-preserved : goal.block_wants-loop-inst-preserved
block_wants-loop-inst-preserved t c = λ later.
    c.loop-inst.invariant (block_next c.args.layout c.args.block.now c.loop-inst.inst-index c.inst-item.result (omega arith) c.inst-item.is (c.inst_wants.ensures.none c.if-inst_wants.false) later)

pub block_wants-returns-clause-none : goal.block_wants-returns-clause-none
block_wants-returns-clause-none t c = λ no. c.loop-inst.invariant (block_end c.args.layout c.args.block.now c.loop-inst.inst-index (omega arith))

pub inst_wants-returns-else-block_wants-clause-none : goal.inst_wants-returns-else-block_wants-clause-none
inst_wants-returns-else-block_wants-clause-none t c = λ no.
    if_none c.args.layout c.args.inst.now _ _ _ c.in-If.is
    (subst (λ (block : List Inst). BlockWantsNone c.args.layout block) c.as_slice.ensures (c.block_wants.ensures.none c.if-block_wants.false))
    (subst (λ (block : List Inst). BlockWantsNone c.args.layout block) c.as_slice-else-block_wants.ensures (c.block_wants-else-block_wants.ensures.none no))

pub inst_wants-returns-in-For-clause-none : goal.inst_wants-returns-in-For-clause-none
inst_wants-returns-in-For-clause-none t c = λ no.
    for_none c.args.layout c.args.inst.now _ _ _ _ c.in-For.is
    (subst (λ (block : List Inst). BlockWantsNone c.args.layout block) c.as_slice-in-For.ensures (c.block_wants-in-For.ensures.none no))

pub block_wants-returns-then-inst_wants-clause-text : goal.block_wants-returns-then-inst_wants-clause-text
block_wants-returns-then-inst_wants-clause-text t c = λ is.
    item_text c.args.layout c.args.block.now c.loop-inst.inst-index c.inst-item.result (omega arith) c.inst-item.is (c.inst_wants.ensures.text c.if-inst_wants.true)

pub inst_wants-returns-in-Want-clause-text : goal.inst_wants-returns-in-Want-clause-text
inst_wants-returns-in-Want-clause-text t c = λ is. want_text c.args.layout _ c.args.inst.now _ _ c.in-Want.is (eqb-true c.in-Want.wanted c.args.layout is)

pub inst_wants-returns-then-block_wants-clause-text : goal.inst_wants-returns-then-block_wants-clause-text
inst_wants-returns-then-block_wants-clause-text t c = λ is.
    if_first c.args.layout c.args.inst.now _ _ _ c.in-If.is
    (subst (λ (block : List Inst). Contains (layouts_wanted block) c.args.layout) c.as_slice.ensures (c.block_wants.ensures.text c.if-block_wants.true))

pub inst_wants-returns-else-block_wants-clause-text : goal.inst_wants-returns-else-block_wants-clause-text
inst_wants-returns-else-block_wants-clause-text t c = λ is.
    if_second c.args.layout c.args.inst.now _ _ _ c.in-If.is
    (subst (λ (block : List Inst). Contains (layouts_wanted block) c.args.layout) c.as_slice-else-block_wants.ensures (c.block_wants-else-block_wants.ensures.text is))

pub inst_wants-returns-in-For-clause-text : goal.inst_wants-returns-in-For-clause-text
inst_wants-returns-in-For-clause-text t c = λ is.
    for_text c.args.layout c.args.inst.now _ _ _ _ c.in-For.is
    (subst (λ (block : List Inst). Contains (layouts_wanted block) c.args.layout) c.as_slice-in-For.ensures (c.block_wants-in-For.ensures.text is))
