use Rattle.std.proofs.Common.{sym, subst}
use Rattle.sg_hash.specs.Seats.{worker_of, is_full}
use Rattle.sg_store.specs.Opening.{IsPlaceOf}
use Rattle.sg_activate.specs.steps.Keys.{AreKeyed}
use Rattle.sg_activate.proofs.KeySteps.{keyed_split, none_put, none_keyed}
use Rattle.sg_activate.proofs.keys.KeyRacePass.split.Goals as goal

pub returns-clause-own : goal.returns-clause-own
returns-clause-own c = (
  c.split.ensures.own,
  subst (λ b. AreKeyed c.args.self.now.store.now (worker_of c.split.new.seat) b) (sym c.split.ensures.full)
      (subst (λ w. AreKeyed c.args.self.now.store.now w (is_full c.args.seat.now)) (sym c.split.ensures.worker) (keyed_split c.args.self.now.store.now (worker_of c.args.seat.now) (is_full c.args.seat.now) c.requires.own.1)),
)

pub returns-clause-other : goal.returns-clause-other
returns-clause-other c = (c.split.ensures.other, none_keyed c.args.self.now.store.now (worker_of c.split.result) _ _ (is_full c.split.result) c.split.ensures.new_worker)

pub returns-clause-none : goal.returns-clause-none
returns-clause-none c = λ wanted. none_put (IsPlaceOf c.args.self.now.store.now 1 wanted) (worker_of c.split.result) _ _ c.split.ensures.new_worker
