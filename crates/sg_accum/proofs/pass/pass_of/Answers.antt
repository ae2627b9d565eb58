use Rattle.std.proofs.Common.{◌<◌, length, sym, ◌∙◌, subst, arith}
use Rattle.sg_accum.specs.Parts.{seat_workers}
use Rattle.sg_accum.specs.steps.Rooms.{AreRooms}
use Rattle.sg_accum.proofs.Ledgers.{same_many}
use Rattle.sg_accum.proofs.Rounds.{many-workers}
use Rattle.sg_accum.proofs.Shares.{first-team}
use Rattle.sg_accum.proofs.pass.pass_of.Goals as goal

pub invariant_of-result-2 : goal.invariant_of-result-2
invariant_of-result-2 c =
    let made = c.requires.begun in
    let seats = c.args.begun.seats.items in
    let parts = c.args.begun.parts.items in
    let some : 0 < length seats = omega (arith, same_many parts seats made.own, c.requires.some) in
    let team = first-team (seat_workers seats) (omega (arith, many-workers seats, some)) made.first in
    let rooms = c.in_ok-rooms.ensures in
    let share = team.share_is in
    let enough = rooms.enough in
    record {
      some = some;
      alike = team.alike;
      enough = omega (arith, share, enough);
      room = subst (λ n. AreRooms n c.in_ok-rooms.rooms) (c.len.ensures ∙ c.args.begun.parts.ok.0 ∙ sym (same_many parts seats made.own)) rooms.each;
    }
