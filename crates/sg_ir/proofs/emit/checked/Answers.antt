use Rattle.std.proofs.Common.{ℕ, List, refl, ap}
use Rattle.sg_ir.specs.declared.code.Inst.TheVariants as v
use Rattle.sg_ir.specs.declared.op.Step.TheVariants as step
use Rattle.sg_ir.specs.Trimmed.{Ways, way_behind}
use Rattle.sg_ir.specs.Emits.{AtPlace}
use Rattle.sg_ir.proofs.Trailing.{trail-Check}
use Rattle.sg_ir.proofs.Equations.{does-Check}
use Rattle.sg_ir.proofs.Emitting.{reaches}
use Rattle.sg_ir.proofs.Fronts.{front-kept, front-place, front-put-place}
use Rattle.sg_ir.proofs.emit.checked.Goals as goal

pub returns-clause-reaches : goal.returns-clause-reaches
returns-clause-reaches c =
    reaches _ (AtPlace c.args.place) (λ ways. way_behind ways c.in_ok-to.to (step.Check c.args.place c.args.axis c.args.extent c.args.index)) (λ to. v.Check to c.args.place c.args.axis c.args.extent c.args.index) _ _ _ _ _ (λ seen now. does-Check seen c.in_ok-to.to c.args.place c.args.axis c.args.extent c.args.index now)
    (λ ways. ap (λ (t : List ℕ × Ways). t.1) (trail-Check c.in_ok-to.to c.args.place c.args.axis c.args.extent c.args.index ways)) (λ ways. refl)
    (record { names = c.in_ok-to.ensures.adds; block = c.in_ok-push.ensures.ok })

pub returns-in_err-to-clause-front : goal.returns-in_err-to-clause-front
returns-in_err-to-clause-front c = front-kept _ _ _ _ c.in_err-to.ensures.kept refl

pub returns-in_err-push-clause-front : goal.returns-in_err-push-clause-front
returns-in_err-push-clause-front c = front-place _ _ _ _ _ c.in_ok-to.ensures.adds c.in_err-push.ensures.err

pub returns-clause-front : goal.returns-clause-front
returns-clause-front c =
    front-put-place (λ to. v.Check to c.args.place c.args.axis c.args.extent c.args.index) _ _ _ _ _ (record { names = c.in_ok-to.ensures.adds; block = c.in_ok-push.ensures.ok })
