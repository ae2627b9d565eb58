use Rattle.std.proofs.Common.{sym, subst}
use Rattle.sg_dynamic.specs.Raising.{worker_of}
use Rattle.sg_activate.specs.steps.Lengths.{HasRaised, HasRaisedFor, IsIndexOf, IsShortInLive, AreShortInLive}
use Rattle.sg_activate.proofs.LengthLevel.{raised_left, raised_right, raises_joined}
use Rattle.sg_activate.proofs.lengths.LengthRacePass.join.Goals as goal

pub returns-clause-own : goal.returns-clause-own
returns-clause-own c = (
  c.join.ensures.own,
  subst (AreShortInLive c.args.self.now.store.now c.args.self.now.node) (sym c.join.ensures.worker)
      (raises_joined (IsShortInLive c.args.self.now.store.now c.args.self.now.node) (worker_of c.args.seat.now) (worker_of c.args.other) c.requires.own.1 c.requires.other.1),
)

pub returns-clause-stays : goal.returns-clause-stays
returns-clause-stays c = λ at met. subst (HasRaised c.args.self.now.store.now c.args.self.now.node at) (sym c.join.ensures.worker)
    (λ parent is. raised_left (worker_of c.args.seat.now) (worker_of c.args.other) parent _ (met parent is))

pub returns-clause-others : goal.returns-clause-others
returns-clause-others c = λ at met. subst (HasRaised c.args.self.now.store.now c.args.self.now.node at) (sym c.join.ensures.worker)
    (λ parent is. raised_right (worker_of c.args.seat.now) (worker_of c.args.other) parent _ (met parent is))

pub returns-clause-made : goal.returns-clause-made
returns-clause-made c = λ wanted mine theirs. subst (HasRaisedFor c.args.self.now.store.now c.args.self.now.node wanted) (sym c.join.ensures.worker)
    (raises_joined (IsIndexOf c.args.self.now.store.now c.args.self.now.node wanted) (worker_of c.args.seat.now) (worker_of c.args.other) mine theirs)
