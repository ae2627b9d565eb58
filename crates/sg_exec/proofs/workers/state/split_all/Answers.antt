use Rattle.std.proofs.Common.{◌+◌, length, List, refl, sym, subst, arith}
use Rattle.std.specs.Prelude.{slice_set}
use Rattle.std.proofs.lemmas.Option.{slice_get_read, slice_get-get_or}
use Rattle.sg_accum.specs.declared.seat.AccSeat.{AccSeat}
use Rattle.sg_exec.proofs.Splitting.{Splitting, splitting_more}
use Rattle.sg_exec.proofs.workers.state.split_all.Goals as goal

pub loop-number-preserved : goal.loop-number-preserved
loop-number-preserved c =
    let long = c.loop-number.invariant.seats.long in
    subst (λ (others : List AccSeat). Splitting c.args.accumulated.now (c.loop-number.number + 1) c.args.seats.now.items (slice_set c.loop-number.seats.items c.loop-number.number c.split-other.new.seat) others) (sym c.in_ok-push.ensures.items)
    (splitting_more c.args.accumulated.now c.loop-number.number c.args.seats.now.items c.loop-number.seats.items c.loop-number.others.items _ c.index_mut-seat.result.now c.split-other.new.seat c.split-other.result
    c.loop-number.invariant (slice_get-get_or c.args.accumulated.now c.loop-number.number c.index-accumulated-number.result (omega arith))
    (slice_get_read c.loop-number.seats.items (length c.loop-number.seats.items) c.loop-number.number c.index_mut-seat.result.now refl (omega arith) c.index_mut-seat.ensures.value)
    c.split-other.ensures.own c.split-other.ensures.other c.split-other.ensures.cut)

pub returns-in_err-push-clause-seats : goal.returns-in_err-push-clause-seats
returns-in_err-push-clause-seats c =
    let long = c.loop-number.invariant.seats.long in
    (splitting_more c.args.accumulated.now c.loop-number.number c.args.seats.now.items c.loop-number.seats.items c.loop-number.others.items _ c.index_mut-seat.result.now c.split-other.new.seat c.split-other.result
    c.loop-number.invariant (slice_get-get_or c.args.accumulated.now c.loop-number.number c.index-accumulated-number.result (omega arith))
    (slice_get_read c.loop-number.seats.items (length c.loop-number.seats.items) c.loop-number.number c.index_mut-seat.result.now refl (omega arith) c.index_mut-seat.ensures.value)
    c.split-other.ensures.own c.split-other.ensures.other c.split-other.ensures.cut).seats
