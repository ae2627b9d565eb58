use Rattle.std.proofs.Common.{length, sym}
use Rattle.sg_hash.specs.Seats.{old_links, worker_of, is_full}
use Rattle.sg_store.specs.Opening.{IsPlaceOf}
use Rattle.sg_activate.proofs.KeySteps.{known_asked, known_stays, keyed_asked, found_asked, puts_hold}
use Rattle.sg_activate.proofs.keys.KeyRacePass.ask.Goals as goal

pub returns-in-Some-clause-own : goal.returns-in-Some-clause-own
returns-in-Some-clause-own c = (
  c.ask.ensures.own,
  keyed_asked c.args.self.now.store.now (length (old_links c.args.self.now.pass)) c.in-Some.key (worker_of c.args.seat.now) (is_full c.args.seat.now) c.ask.result (worker_of c.ask.new.seat) (is_full c.ask.new.seat)
      c.ask.ensures.answer c.ask.ensures.put c.ask.ensures.keys c.ask.ensures.stays_dry c.in-Some.ensures.in_live c.requires.own.1,
)

pub returns-in-Some-clause-met : goal.returns-in-Some-clause-met
returns-in-Some-clause-met c = found_asked c.args.self.now.store.now c.args.at c.in-Some.key (worker_of c.ask.new.seat) (is_full c.ask.new.seat) (sym c.in-Some.ensures.value)
    (known_asked (length (old_links c.args.self.now.pass)) c.in-Some.key (worker_of c.args.seat.now) (is_full c.args.seat.now) (worker_of c.ask.new.seat) (is_full c.ask.new.seat) c.ask.result c.ask.ensures.answer)

pub returns-in-Some-clause-stays : goal.returns-in-Some-clause-stays
returns-in-Some-clause-stays c = λ other met key is. known_stays (length (old_links c.args.self.now.pass)) c.in-Some.key (worker_of c.args.seat.now) (is_full c.args.seat.now) (worker_of c.ask.new.seat) (is_full c.ask.new.seat) c.ask.result
    c.ask.ensures.answer c.ask.ensures.keys c.ask.ensures.stays_dry key (met key is)

pub returns-in-Some-clause-made : goal.returns-in-Some-clause-made
returns-in-Some-clause-made c = λ wanted is before. puts_hold (IsPlaceOf c.args.self.now.store.now 1 wanted) c.in-Some.key (worker_of c.args.seat.now) (worker_of c.ask.new.seat) c.ask.ensures.put
    (record { at = c.args.at; is_of = is; has_place = sym c.in-Some.ensures.value }) before
