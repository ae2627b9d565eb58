use Rattle.std.proofs.Common.{sym, subst}
use Rattle.sg_hash.specs.Seats.{worker_of, is_full}
use Rattle.sg_store.specs.Opening.{IsPlaceOf}
use Rattle.sg_activate.specs.steps.Keys.{IsKnown, HasPutFor, AreKeyed}
use Rattle.sg_activate.proofs.KeySteps.{known_left, known_right, puts_joined, keyed_joined}
use Rattle.sg_activate.proofs.keys.KeyRacePass.join.Goals as goal

pub returns-clause-own : goal.returns-clause-own
returns-clause-own c = (
  c.join.ensures.own,
  subst (λ w. AreKeyed c.args.self.now.store.now w (is_full c.join.new.seat)) (sym c.join.ensures.worker)
      (keyed_joined c.args.self.now.store.now (worker_of c.args.seat.now) (worker_of c.args.other) (is_full c.args.seat.now) (is_full c.args.other) (is_full c.join.new.seat) c.join.ensures.full c.requires.own.1 c.requires.other.1),
)

pub returns-clause-stays : goal.returns-clause-stays
returns-clause-stays c = λ at met key is. subst (λ w. IsKnown w (is_full c.join.new.seat) key) (sym c.join.ensures.worker)
    (known_left (worker_of c.args.seat.now) (worker_of c.args.other) (is_full c.args.seat.now) (is_full c.args.other) (is_full c.join.new.seat) c.join.ensures.full key (met key is))

pub returns-clause-others : goal.returns-clause-others
returns-clause-others c = λ at met key is. subst (λ w. IsKnown w (is_full c.join.new.seat) key) (sym c.join.ensures.worker)
    (known_right (worker_of c.args.seat.now) (worker_of c.args.other) (is_full c.args.seat.now) (is_full c.args.other) (is_full c.join.new.seat) c.join.ensures.full key (met key is))

pub returns-clause-made : goal.returns-clause-made
returns-clause-made c = λ wanted mine theirs. subst (HasPutFor c.args.self.now.store.now wanted) (sym c.join.ensures.worker)
    (puts_joined (IsPlaceOf c.args.self.now.store.now 1 wanted) (worker_of c.args.seat.now) (worker_of c.args.other) mine theirs)
