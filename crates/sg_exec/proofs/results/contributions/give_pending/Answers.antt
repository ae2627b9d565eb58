use Rattle.std.proofs.Common.{Option, sym, subst}
use Rattle.sg_exec.specs.declared.results.shared.Pending.{Pending}
use Rattle.sg_exec.specs.steps.Pending.{HasGivenLast}
use Rattle.sg_exec.proofs.Taking.{last_none, last_given}
use Rattle.sg_exec.proofs.results.contributions.give_pending.Goals as goal

pub returns-in-Some-clause-gave : goal.returns-in-Some-clause-gave
returns-in-Some-clause-gave c =
    subst (λ (b : Option Pending). HasGivenLast b c.args.seat.now c.give.new.seat) (sym c.in-Some.is) (last_given c.in-Some.one c.args.seat.now c.give.new.seat c.give.ensures.gave)

pub returns-in_default-clause-gave : goal.returns-in_default-clause-gave
returns-in_default-clause-gave c = subst (λ (b : Option Pending). HasGivenLast b c.args.seat.now c.args.seat.now) (sym c.in_default.is) (last_none c.args.seat.now)
