use Rattle.std.proofs.Common.{Bool, subst, arith}
use Rattle.sg_activate.specs.steps.Levels.{IsFirstFull, IfActRefused}
use Rattle.sg_activate.specs.Descending.{open_before}
use Rattle.sg_activate.specs.steps.Finding.{found_in}
use Rattle.sg_activate.proofs.Active.{refused_as}
use Rattle.sg_activate.proofs.Through.{middle_none, middle_some}
use Rattle.sg_activate.proofs.activation.open_middle.Goals as goal

pub returns-then-last-lt1-clause-opened : goal.returns-then-last-lt1-clause-opened
returns-then-last-lt1-clause-opened g c = middle_none c.args.store.now c.last_fused-last.result c.last_fused-last.ensures c.if-last-lt1.true (found_in c.args.work.now.axes c.args.work.now.found.now)

pub returns-in-Ok-clause-opened : goal.returns-in-Ok-clause-opened
returns-in-Ok-clause-opened g c = middle_some c.args.store.now c.descend.new.store (omega (arith, c.last_fused-last.ensures, c.if-last-lt1.false)) (found_in c.args.work.now.axes c.args.work.now.found.now) c.in-Ok.ensures.opened

pub returns-in-Err-clause-full : goal.returns-in-Err-clause-full
returns-in-Err-clause-full g c =
    let Says = IsFirstFull c.args.store.now (open_before c.args.store.now.shape) (found_in c.args.work.now.axes c.args.work.now.found.now) in
    refused_as (Unit {0}) Bool c.in-Err.stop Says (subst (λ r. IfActRefused r Says) c.in-Err.is c.descend.ensures.full)
