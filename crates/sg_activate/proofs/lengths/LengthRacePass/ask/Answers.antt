use Rattle.std.proofs.Common.{◌-◌, ◌<◌, sym, ap, ◌∙◌, subst}
use Rattle.std.specs.Prelude.{slice_index}
use Rattle.sg_layout.specs.declared.shape.Shape.{Shape}
use Rattle.sg_layout.specs.Axes.{sizes_of}
use Rattle.sg_layout.specs.Path.{offsets}
use Rattle.sg_dynamic.specs.Raising.{worker_of}
use Rattle.sg_activate.specs.steps.Lengths.{IsIndexOf, IsShortInLive}
use Rattle.sg_activate.proofs.LengthLevel.{raised_here, raised_stays, raises_hold}
use Rattle.sg_activate.proofs.lengths.LengthRacePass.ask.Goals as goal

pub returns-in-Some-clause-own : goal.returns-in-Some-clause-own
returns-in-Some-clause-own c = (
  c.raise.ensures.own,
  raises_hold (IsShortInLive c.args.self.now.store.now c.args.self.now.node) c.in-Some.parent c.offset-index.result (worker_of c.args.seat.now) (worker_of c.raise.new.seat) c.raise.ensures.worker
      (record { in_live = c.in-Some.ensures.in_live; below = subst (λ (s : Shape). c.offset-index.result < slice_index (sizes_of s.nodes) (c.args.self.now.node - 1)) c.layout.ensures.layout c.offset-index.ensures.below }) c.requires.own.1,
)

pub returns-in-Some-clause-met : goal.returns-in-Some-clause-met
returns-in-Some-clause-met c = raised_here c.args.self.now.store.now c.args.self.now.node c.args.at c.in-Some.parent c.offset-index.result (worker_of c.args.seat.now) (worker_of c.raise.new.seat) (sym c.in-Some.ensures.value)
    (c.offset-index.ensures.value ∙ ap (λ (s : Shape). slice_index (offsets s.nodes c.args.at) (c.args.self.now.node - 1)) c.layout.ensures.layout) c.raise.ensures.worker

pub returns-in-Some-clause-stays : goal.returns-in-Some-clause-stays
returns-in-Some-clause-stays c = λ other met parent is. raised_stays c.in-Some.parent c.offset-index.result parent _ (worker_of c.args.seat.now) (worker_of c.raise.new.seat) c.raise.ensures.worker (met parent is)

pub returns-in-Some-clause-made : goal.returns-in-Some-clause-made
returns-in-Some-clause-made c = λ wanted is before. raises_hold (IsIndexOf c.args.self.now.store.now c.args.self.now.node wanted) c.in-Some.parent c.offset-index.result (worker_of c.args.seat.now) (worker_of c.raise.new.seat) c.raise.ensures.worker
    (record { at = c.args.at; is_of = is; has_place = sym c.in-Some.ensures.value; has_offset = (c.offset-index.ensures.value ∙ ap (λ (s : Shape). slice_index (offsets s.nodes c.args.at) (c.args.self.now.node - 1)) c.layout.ensures.layout) }) before
