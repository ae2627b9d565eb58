use Rattle.std.specs.Prelude.{slice_index}
use Rattle.sg_words.proofs.Uses.{asked-dry}
use Rattle.sg_pointer.proofs.seat.PointerPass.ask.Goals as goal

pub returns-in-Some-clause-stays_dry : goal.returns-in-Some-clause-stays_dry
returns-in-Some-clause-stays_dry c dry =
    asked-dry c.args.seat.now.seat.me.0 c.look-word.new.seat.seat.me.0 c.provide.new.seat.seat.me.0 c.place.new.seat.seat.me.0 c.args.slot c.look-word.result c.args.slot c.in-Some.ticket
    (slice_index c.args.self.now.start.stock c.in-Some.ticket) c.place.ensures.event.0 c.look-word.ensures.event c.provide.ensures.event c.place.ensures.event.1 dry
