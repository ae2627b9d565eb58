use Rattle.std.proofs.Common.{◌≡◌, ◌<◌, length, Some, refl, arith}
use Rattle.std.specs.Prelude.{slice_get}
use Rattle.std.proofs.lemmas.Option.{slice_get_read}
use Rattle.sg_exec.proofs.Giving.{seats_set}
use Rattle.sg_exec.proofs.Taking.{given_start, given_next, left_pending, gave_last, none_left}
use Rattle.sg_exec.proofs.results.contributions.give_last.Goals as goal

pub loop-number-init : goal.loop-number-init
loop-number-init c = record { seats = c.requires.seats; given = given_start c.args.accumulated.now c.args.pending.now.items c.args.seats.now.items c.requires.pending.long }

pub give_pending-requires-clause-operator : goal.give_pending-requires-clause-operator
give_pending-requires-clause-operator c =
    let below : c.loop-number.number < length c.args.accumulated.now = omega arith in
    (c.requires.passes.each c.loop-number.number c.index-accumulated-number.result
    (slice_get_read c.args.accumulated.now (length c.args.accumulated.now) c.loop-number.number c.index-accumulated-number.result refl below c.index-accumulated-number.is)).operator

pub give_pending-requires-clause-pending : goal.give_pending-requires-clause-pending
give_pending-requires-clause-pending c =
    let below : c.loop-number.number < length c.args.accumulated.now = omega arith in
    let long = c.loop-number.invariant.seats.long in
    let along = c.loop-number.invariant.given.long in
    left_pending c.args.accumulated.now c.args.pending.now.items c.args.seats.now.items c.loop-number.pending.items c.loop-number.seats.items c.loop-number.number c.index-accumulated-number.result c.index-before.result.now
    c.index_mut-seat.result.now c.requires.seats.long c.requires.pending
    (slice_get_read c.args.accumulated.now (length c.args.accumulated.now) c.loop-number.number c.index-accumulated-number.result refl below c.index-accumulated-number.is)
    (slice_get_read c.loop-number.pending.items (length c.loop-number.pending.items) c.loop-number.number c.index-before.result.now refl (omega (arith, below, along)) c.index-before.ensures)
    (slice_get_read c.loop-number.seats.items (length c.loop-number.seats.items) c.loop-number.number c.index_mut-seat.result.now refl (omega (arith, below, long)) c.index_mut-seat.ensures.value)
    c.loop-number.invariant.given

pub loop-number-preserved : goal.loop-number-preserved
loop-number-preserved c =
    let below : c.loop-number.number < length c.args.accumulated.now = omega arith in
    let long = c.loop-number.invariant.seats.long in
    let along = c.loop-number.invariant.given.long in
    let is : slice_get c.args.accumulated.now c.loop-number.number ≡ Some c.index-accumulated-number.result =
    slice_get_read c.args.accumulated.now (length c.args.accumulated.now) c.loop-number.number c.index-accumulated-number.result refl below c.index-accumulated-number.is in
    record {
      seats = seats_set c.args.accumulated.now c.loop-number.seats.items c.loop-number.number c.index-accumulated-number.result c.give_pending.new.seat c.loop-number.invariant.seats is c.give_pending.ensures.own;
      given = given_next c.args.accumulated.now c.args.pending.now.items c.args.seats.now.items c.loop-number.pending.items c.loop-number.seats.items c.loop-number.number c.index-accumulated-number.result c.index-before.result.now
          c.index_mut-seat.result.now c.give_pending.new.seat is
          (slice_get_read c.loop-number.pending.items (length c.loop-number.pending.items) c.loop-number.number c.index-before.result.now refl (omega (arith, below, along)) c.index-before.ensures)
          (slice_get_read c.loop-number.seats.items (length c.loop-number.seats.items) c.loop-number.number c.index_mut-seat.result.now refl (omega (arith, below, long)) c.index_mut-seat.ensures.value)
          c.give_pending.ensures.gave c.loop-number.invariant.given;
    }

pub returns-clause-gave : goal.returns-clause-gave
returns-clause-gave c =
    gave_last c.args.accumulated.now c.args.pending.now.items c.args.seats.now.items c.loop-number.pending.items c.loop-number.seats.items c.loop-number.number c.requires.pending.long c.requires.seats.long
    c.loop-number.invariant.seats.long (omega arith) c.loop-number.invariant.given

pub returns-clause-none : goal.returns-clause-none
returns-clause-none c =
    none_left c.args.accumulated.now c.args.pending.now.items c.args.seats.now.items c.loop-number.pending.items c.loop-number.seats.items c.loop-number.number c.requires.pending.long c.requires.seats.long
    c.loop-number.invariant.seats.long (omega arith) c.loop-number.invariant.given
