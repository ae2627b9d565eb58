use Rattle.std.proofs.Common.{Bool, sym, ◌∙◌, subst}
use Rattle.std.proofs.lemmas.Bool.{false≢true}
use Rattle.sg_activate.specs.steps.Levels.{IsFirstFull, IfActRefused}
use Rattle.sg_activate.specs.steps.Finding.{found_in}
use Rattle.sg_activate.proofs.Active.{refused_as}
use Rattle.sg_activate.proofs.Through.{head_none, head_some}
use Rattle.sg_activate.proofs.activation.open_head.Goals as goal

pub returns-in-Ok-clause-opened : goal.returns-in-Ok-clause-opened
returns-in-Ok-clause-opened g c = head_some c.args.store.now c.open_keys.new.store (c.has_kind.ensures.0 c.if-has_kind.true) (found_in c.args.work.now.axes c.args.work.now.found.now) c.in-Ok.ensures.opened

pub returns-in-Err-clause-full : goal.returns-in-Err-clause-full
returns-in-Err-clause-full g c =
    let full = subst (λ r. IfActRefused r (IsFirstFull c.args.store.now 0 (found_in c.args.work.now.axes c.args.work.now.found.now))) c.in-Err.is c.open_keys.ensures.full in
    refused_as (Unit {0}) Bool c.in-Err.stop (IsFirstFull c.args.store.now 0 (found_in c.args.work.now.axes c.args.work.now.found.now)) full

pub returns-clause-opened : goal.returns-clause-opened
returns-clause-opened g c = head_none c.args.store.now (λ hash. false≢true (sym c.if-has_kind.false ∙ c.has_kind.ensures.1 hash)) (found_in c.args.work.now.axes c.args.work.now.found.now)
