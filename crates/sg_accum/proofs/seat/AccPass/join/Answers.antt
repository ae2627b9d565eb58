use Rattle.std.proofs.Common.{length, ap, ◌∙◌}
use Rattle.sg_accum.specs.Parts.{seat_workers}
use Rattle.sg_accum.proofs.Rounds.{many-joined}
use Rattle.sg_accum.proofs.Roomy.{rooms-stay}
use Rattle.sg_accum.proofs.Shares.{as-many-workers, joined-seats, merged}
use Rattle.sg_accum.proofs.seat.AccPass.join.Goals as goal

pub invariant_of-seat : goal.invariant_of-seat
invariant_of-seat c =
    let now = joined-seats c.args.self.now c.args.seat.now c.args.other c.join_each.new.seats.items c.requires.own c.requires.other c.join_each.ensures.both in
    let long = ap length c.join_each.ensures.both ∙ many-joined (seat_workers c.args.seat.now.seats.items) (seat_workers c.args.other.seats.items) (as-many-workers c.args.self.now c.args.seat.now c.args.other c.requires.own c.requires.other) in
    let rooms = rooms-stay c.args.seat.now c.join_each.new.seats.items long now.team.share_is in
    record { some = now.some; alike = now.team.alike; enough = rooms.enough; room = rooms.each }

pub returns-clause-merged : goal.returns-clause-merged
returns-clause-merged c = merged c.args.self.now c.args.seat.now c.args.other _ c.requires.own c.requires.other c.join_each.ensures.both
