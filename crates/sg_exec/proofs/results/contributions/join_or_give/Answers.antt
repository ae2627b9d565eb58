use Rattle.std.proofs.Common.{Option, Some, sym, subst}
use Rattle.sg_exec.specs.declared.results.shared.Pending.{Pending}
use Rattle.sg_exec.specs.steps.Pending.{HasTaken}
use Rattle.std.specs.Prelude.{[], ◌∷◌}
use Rattle.sg_exec.proofs.Taking.{taken_first, taken_joined, taken_given}
use Rattle.sg_exec.proofs.results.contributions.join_or_give.Goals as goal

pub returns-in_default-clause-taken : goal.returns-in_default-clause-taken
returns-in_default-clause-taken c =
    subst (λ (b : Option Pending). HasTaken c.args.to.now ((c.args.cell, c.args.word) ∷ []) b c.args.seat.now (Some (record { cell = c.args.cell; word = c.args.word })) c.args.seat.now) (sym c.in_default.is)
    (taken_first c.args.to.now c.args.cell c.args.word c.args.seat.now)

pub returns-then-one-cell-clause-taken : goal.returns-then-one-cell-clause-taken
returns-then-one-cell-clause-taken c =
    subst (λ (b : Option Pending). HasTaken c.args.to.now ((c.args.cell, c.args.word) ∷ []) b c.args.seat.now (Some (record { cell = c.args.cell; word = c.fold-word.result })) c.args.seat.now) (sym c.in-Some.is)
    (taken_joined c.args.to.now c.args.cell c.args.word c.in-Some.one c.fold-word.result c.args.seat.now c.if-one-cell.true c.requires.operator c.requires.order c.fold-word.ensures)

pub returns-clause-taken : goal.returns-clause-taken
returns-clause-taken c =
    subst (λ (b : Option Pending). HasTaken c.args.to.now ((c.args.cell, c.args.word) ∷ []) b c.args.seat.now (Some (record { cell = c.args.cell; word = c.args.word })) c.give.new.seat) (sym c.in-Some.is)
    (taken_given c.args.to.now c.args.cell c.args.word c.in-Some.one c.args.seat.now c.give.new.seat c.give.ensures.gave)
