use Rattle.std.proofs.Common.{ℕ, List, [], Some, refl, ap}
use Rattle.sg_ir.specs.declared.code.Inst.TheVariants as v
use Rattle.sg_ir.specs.Trimmed.{Ways}
use Rattle.sg_ir.specs.Emits.{AtRoot}
use Rattle.sg_ir.proofs.Trailing.{trail-Root}
use Rattle.sg_ir.proofs.Equations.{does-Root}
use Rattle.sg_ir.proofs.Emitting.{reaches}
use Rattle.sg_ir.proofs.Fronts.{front-kept, front-place, front-put-place}
use Rattle.sg_ir.proofs.emit.root.Goals as goal

pub returns-clause-reaches : goal.returns-clause-reaches
returns-clause-reaches c =
    reaches _ (AtRoot c.args.layout) (λ ways. record { root = Some c.args.layout; checks = [] }) (λ to. v.Root to c.args.layout) _ _ _ _ _ (λ seen now. does-Root seen c.in_ok-to.to c.args.layout now)
    (λ ways. ap (λ (t : List ℕ × Ways). t.1) (trail-Root c.in_ok-to.to c.args.layout ways)) (λ ways. refl)
    (record { names = c.in_ok-to.ensures.adds; block = c.in_ok-push.ensures.ok })

pub returns-in_err-to-clause-front : goal.returns-in_err-to-clause-front
returns-in_err-to-clause-front c = front-kept _ _ _ _ c.in_err-to.ensures.kept refl

pub returns-in_err-push-clause-front : goal.returns-in_err-push-clause-front
returns-in_err-push-clause-front c = front-place _ _ _ _ _ c.in_ok-to.ensures.adds c.in_err-push.ensures.err

pub returns-clause-front : goal.returns-clause-front
returns-clause-front c =
    front-put-place (λ to. v.Root to c.args.layout) _ _ _ _ _ (record { names = c.in_ok-to.ensures.adds; block = c.in_ok-push.ensures.ok })
