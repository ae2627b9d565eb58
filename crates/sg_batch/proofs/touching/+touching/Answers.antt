use Rattle.std.proofs.Common.{sym, subst, arith}
use Rattle.std.specs.Prelude.{Contains}
use Rattle.std.proofs.lemmas.List.Elements.{Contains-get_or}
use Rattle.sg_ir.specs.Touches.{touched_by}
use Rattle.sg_batch.proofs.TextLayouts.{into_flat, flat_next, flat_end}
use Rattle.sg_batch.proofs.TouchedText.{touched_want, touched_root, touched_write, touched_acc, touched_read, touched_own, touched_else, arm_some, arm_none, else_none, if_first, if_second, if_neither, for_some, for_none}
use Rattle.sg_batch.proofs.touching.+touching.Goals as goal

pub touches_in-loop-inst-init : goal.touches_in-loop-inst-init
touches_in-loop-inst-init t c = λ has. has

pub touches_in-loop-inst-preserved : goal.touches_in-loop-inst-preserved
touches_in-loop-inst-preserved t c = λ has.
    flat_next touched_by c.args.block.now c.loop-inst.inst-index c.inst-item.result c.args.layout (omega arith) c.inst-item.is (c.touches_of.ensures.none c.if-touches_of.false) (c.loop-inst.invariant has)

pub touches_in-returns-then-touches_of-clause-some : goal.touches_in-returns-then-touches_of-clause-some
touches_in-returns-then-touches_of-clause-some t c = λ is.
    into_flat touched_by c.args.block.now c.inst-item.result c.args.layout
    (subst (Contains c.args.block.now) (sym c.inst-item.is) (Contains-get_or c.args.block.now c.loop-inst.inst-index c.inst-item.result (omega arith))) (c.touches_of.ensures.some c.if-touches_of.true)

pub touches_in-returns-clause-none : goal.touches_in-returns-clause-none
touches_in-returns-clause-none t c = λ is has. flat_end touched_by c.args.block.now c.loop-inst.inst-index c.args.layout (omega arith) (c.loop-inst.invariant has)

pub touches_of-returns-in-Root-clause-some : goal.touches_of-returns-in-Root-clause-some
touches_of-returns-in-Root-clause-some t c = λ is. arm_some c.args.inst.now _ c.args.layout (touched_root c.args.inst.now _ _ c.in-Root.is) is

pub touches_of-returns-in-Root-clause-none : goal.touches_of-returns-in-Root-clause-none
touches_of-returns-in-Root-clause-none t c = λ is. arm_none c.args.inst.now _ c.args.layout (touched_root c.args.inst.now _ _ c.in-Root.is) is

pub touches_of-returns-in-ReadCell-clause-some : goal.touches_of-returns-in-ReadCell-clause-some
touches_of-returns-in-ReadCell-clause-some t c = λ is. arm_some c.args.inst.now _ c.args.layout (touched_read c.args.inst.now _ _ _ _ _ c.in-ReadCell.is) is

pub touches_of-returns-in-ReadCell-clause-none : goal.touches_of-returns-in-ReadCell-clause-none
touches_of-returns-in-ReadCell-clause-none t c = λ is. arm_none c.args.inst.now _ c.args.layout (touched_read c.args.inst.now _ _ _ _ _ c.in-ReadCell.is) is

pub touches_of-returns-in-OwnRead-clause-some : goal.touches_of-returns-in-OwnRead-clause-some
touches_of-returns-in-OwnRead-clause-some t c = λ is. arm_some c.args.inst.now _ c.args.layout (touched_own c.args.inst.now _ _ _ c.in-OwnRead.is) is

pub touches_of-returns-in-OwnRead-clause-none : goal.touches_of-returns-in-OwnRead-clause-none
touches_of-returns-in-OwnRead-clause-none t c = λ is. arm_none c.args.inst.now _ c.args.layout (touched_own c.args.inst.now _ _ _ c.in-OwnRead.is) is

pub touches_of-returns-in-Want-clause-some : goal.touches_of-returns-in-Want-clause-some
touches_of-returns-in-Want-clause-some t c = λ is. arm_some c.args.inst.now _ c.args.layout (touched_want c.args.inst.now _ _ _ c.in-Want.is) is

pub touches_of-returns-in-Want-clause-none : goal.touches_of-returns-in-Want-clause-none
touches_of-returns-in-Want-clause-none t c = λ is. arm_none c.args.inst.now _ c.args.layout (touched_want c.args.inst.now _ _ _ c.in-Want.is) is

pub touches_of-returns-in-OwnWrite-clause-some : goal.touches_of-returns-in-OwnWrite-clause-some
touches_of-returns-in-OwnWrite-clause-some t c = λ is. arm_some c.args.inst.now _ c.args.layout (touched_write c.args.inst.now _ _ _ _ c.in-OwnWrite.is) is

pub touches_of-returns-in-OwnWrite-clause-none : goal.touches_of-returns-in-OwnWrite-clause-none
touches_of-returns-in-OwnWrite-clause-none t c = λ is. arm_none c.args.inst.now _ c.args.layout (touched_write c.args.inst.now _ _ _ _ c.in-OwnWrite.is) is

pub touches_of-returns-in-Acc-clause-some : goal.touches_of-returns-in-Acc-clause-some
touches_of-returns-in-Acc-clause-some t c = λ is. arm_some c.args.inst.now _ c.args.layout (touched_acc c.args.inst.now _ _ _ _ _ _ _ c.in-Acc.is) is

pub touches_of-returns-in-Acc-clause-none : goal.touches_of-returns-in-Acc-clause-none
touches_of-returns-in-Acc-clause-none t c = λ is. arm_none c.args.inst.now _ c.args.layout (touched_acc c.args.inst.now _ _ _ _ _ _ _ c.in-Acc.is) is

pub touches_of-returns-then-touches_in-clause-some : goal.touches_of-returns-then-touches_in-clause-some
touches_of-returns-then-touches_in-clause-some t c = λ is.
    if_first c.args.inst.now _ _ _ c.in-If.is c.as_slice.result.now c.args.layout c.as_slice.ensures (c.touches_in.ensures.some c.if-touches_in.true)

pub touches_of-returns-else-touches_in-clause-some : goal.touches_of-returns-else-touches_in-clause-some
touches_of-returns-else-touches_in-clause-some t c = λ is.
    if_second c.args.inst.now _ _ _ c.in-If.is c.as_slice-else-touches_in.result.now c.args.layout c.as_slice-else-touches_in.ensures (c.touches_in-else-touches_in.ensures.some is)

pub touches_of-returns-else-touches_in-clause-none : goal.touches_of-returns-else-touches_in-clause-none
touches_of-returns-else-touches_in-clause-none t c = λ is.
    if_neither c.args.inst.now _ _ _ c.in-If.is c.as_slice.result.now c.as_slice-else-touches_in.result.now c.args.layout c.as_slice.ensures c.as_slice-else-touches_in.ensures
    (c.touches_in.ensures.none c.if-touches_in.false) (c.touches_in-else-touches_in.ensures.none is)

pub touches_of-returns-in-For-clause-some : goal.touches_of-returns-in-For-clause-some
touches_of-returns-in-For-clause-some t c = λ is.
    for_some c.args.inst.now _ _ _ _ c.in-For.is c.as_slice-in-For.result.now c.args.layout c.as_slice-in-For.ensures (c.touches_in-in-For.ensures.some is)

pub touches_of-returns-in-For-clause-none : goal.touches_of-returns-in-For-clause-none
touches_of-returns-in-For-clause-none t c = λ is.
    for_none c.args.inst.now _ _ _ _ c.in-For.is c.as_slice-in-For.result.now c.args.layout c.as_slice-in-For.ensures (c.touches_in-in-For.ensures.none is)

pub touches_of-returns-in_default-clause-none : goal.touches_of-returns-in_default-clause-none
touches_of-returns-in_default-clause-none t c = λ is.
    else_none c.args.inst.now c.args.layout
    (touched_else c.args.inst.now c.in_default.not-Root c.in_default.not-ReadCell c.in_default.not-OwnRead c.in_default.not-Want c.in_default.not-OwnWrite c.in_default.not-Acc c.in_default.not-If c.in_default.not-For)
