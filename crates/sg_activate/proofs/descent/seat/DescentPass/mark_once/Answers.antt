use Rattle.std.proofs.Common.{◌+◌, ◌∙◌, arith}
use Rattle.std.proofs.lemmas.List.{length-set}
use Rattle.sg_activate.proofs.DescentMores.{marked-here, bits-set}
use Rattle.sg_activate.proofs.descent.seat.DescentPass.mark_once.Goals as goal

pub overflow_add-number : goal.overflow_add-number
overflow_add-number c =
    let inside = c.requires.inside in
    let room = c.args.self.now.room in
    omega arith

pub invariant_of-seat-clause-bits : goal.invariant_of-seat-clause-bits
invariant_of-seat-clause-bits c = length-set c.mark.new.seat.last_bits c.args.index (c.args.bit + 1) ∙ c.mark.new.seat.bits

pub invariant_of-seat-clause-bits_are : goal.invariant_of-seat-clause-bits_are
invariant_of-seat-clause-bits_are c =
    let w = c.mark.new.seat.seat.me.0 in
    let level = c.requires.level in
    let bits = c.mark.new.seat.bits in
    bits-set c.mark.new.seat.last_bits w c.args.index c.args.bit (omega arith) (marked-here c.args.bit c.args.seat.now.seat.me.0 w c.mark.ensures.event) c.mark.new.seat.bits_are

pub returns-clause-marked : goal.returns-clause-marked
returns-clause-marked c = marked-here c.args.bit c.args.seat.now.seat.me.0 c.mark.new.seat.seat.me.0 c.mark.ensures.event
