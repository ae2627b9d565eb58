use Rattle.std.proofs.Common.{◌≡◌, ℕ, List, length, refl, ap, sym, subst}
use Rattle.sg_words.specs.declared.race.Worker.{Worker}
use Rattle.sg_activate.specs.declared.descent.rule.Start.{Start}
use Rattle.sg_activate.specs.Descending.{IsStartOf, FitsSeat}
use Rattle.sg_activate.specs.Descents.{worker_of, AreInside}
use Rattle.sg_activate.specs.steps.DescentEnds.{HasEnded, IsGathered}
use Rattle.sg_activate.proofs.DescentGone.{refused_also, ok_also}
use Rattle.sg_activate.proofs.descent.seat.DescentPass.finish.Goals as goal

pub gather-requires-clause-links : goal.gather-requires-clause-links
gather-requires-clause-links c = ap length c.in-Ok.ensures.0

pub gather-requires-clause-masks : goal.gather-requires-clause-masks
gather-requires-clause-masks c = ap length c.in-Ok.ensures.1

gathered : (v : Worker) (start now : Start) (links masks : List ℕ) → now ≡ start → AreInside start v → HasEnded start v links masks → IsGathered now links masks v
gathered v start now links masks same inside ended = record { inside = subst (λ s. AreInside s v) (sym same) inside; ended = subst (λ s. HasEnded s v links masks) (sym same) ended }

pub give-requires-clause-gathered : goal.give-requires-clause-gathered
give-requires-clause-gathered c =
    let g = c.gather.ensures in
    let v = worker_of c.args.seat in
    (v, gathered v c.args.self.start c.gather.result.start c.gather.result.links c.gather.result.masks g.start c.requires.own.inside g.ended)

pub give-requires-clause-same : goal.give-requires-clause-same
give-requires-clause-same c = subst (λ (s : Start). IsStartOf s c.args.store.now) (sym c.gather.ensures.start) c.requires.same

pub returns-in-Ok-clause-answer : goal.returns-in-Ok-clause-answer
returns-in-Ok-clause-answer c = λ old wanted fits was_open.
    let g = c.gather.ensures in
    let v = worker_of c.args.seat in
    c.give.ensures.answer v (gathered v c.args.self.start c.gather.result.start c.gather.result.links c.gather.result.masks g.start c.requires.own.inside g.ended) old wanted
    (subst (λ (s : Start). FitsSeat s v wanted) (sym g.start) fits) was_open

pub returns-in-Ok-clause-full : goal.returns-in-Ok-clause-full
returns-in-Ok-clause-full c =
    let g = c.gather.ensures in
    let v = worker_of c.args.seat in
    refused_also (Unit {0}) c.give.result _ _
    (λ fault says old wanted fits was_open.
    says v (gathered v c.args.self.start c.gather.result.start c.gather.result.links c.gather.result.masks g.start c.requires.own.inside g.ended) old wanted
    (subst (λ (s : Start). FitsSeat s v wanted) (sym g.start) fits) was_open)
    c.give.ensures.full

pub returns-in-Ok-clause-opened : goal.returns-in-Ok-clause-opened
returns-in-Ok-clause-opened c =
    let g = c.gather.ensures in
    let v = worker_of c.args.seat in
    ok_also (Unit {0}) c.give.result _ _
    (λ says old wanted fits was_open.
    says v (gathered v c.args.self.start c.gather.result.start c.gather.result.links c.gather.result.masks g.start c.requires.own.inside g.ended) old wanted
    (subst (λ (s : Start). FitsSeat s v wanted) (sym g.start) fits) was_open)
    c.give.ensures.opened

pub returns-in-Ok-clause-keeps : goal.returns-in-Ok-clause-keeps
returns-in-Ok-clause-keeps c = c.give.ensures.keeps

pub returns-in-Ok-clause-stays_at : goal.returns-in-Ok-clause-stays_at
returns-in-Ok-clause-stays_at c = c.give.ensures.stays_at

pub returns-in-Ok-clause-stays : goal.returns-in-Ok-clause-stays
returns-in-Ok-clause-stays c = c.give.ensures.stays

pub returns-in-Err-clause-stays : goal.returns-in-Err-clause-stays
returns-in-Err-clause-stays c = refl
