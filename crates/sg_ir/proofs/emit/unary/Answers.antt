use Rattle.std.proofs.Common.{ℕ, List, refl, ap}
use Rattle.sg_ir.specs.declared.code.Inst.TheVariants as v
use Rattle.sg_ir.specs.Trimmed.{Ways}
use Rattle.sg_ir.proofs.Trailing.{trail-Un}
use Rattle.sg_ir.proofs.Equations.{does-Un}
use Rattle.sg_ir.proofs.Emitting.{computes}
use Rattle.sg_ir.proofs.Fronts.{front-kept, front-reg, front-put-reg}
use Rattle.sg_ir.proofs.emit.unary.Goals as goal

pub returns-clause-computes : goal.returns-clause-computes
returns-clause-computes c =
    computes _ _ (λ to. v.Un to c.args.op c.args.ty c.args.a) _ _ _ _ _ (λ seen now. does-Un seen c.in_ok-to.to c.args.op c.args.ty c.args.a now)
    (λ ways. ap (λ (t : List ℕ × Ways). t.1) (trail-Un c.in_ok-to.to c.args.op c.args.ty c.args.a ways))
    (record { names = c.in_ok-to.ensures.adds; block = c.in_ok-push.ensures.ok })

pub returns-in_err-to-clause-front : goal.returns-in_err-to-clause-front
returns-in_err-to-clause-front c = front-kept _ _ _ _ c.in_err-to.ensures.kept refl

pub returns-in_err-push-clause-front : goal.returns-in_err-push-clause-front
returns-in_err-push-clause-front c = front-reg _ _ _ _ _ _ c.in_ok-to.ensures.adds c.in_err-push.ensures.err

pub returns-clause-front : goal.returns-clause-front
returns-clause-front c =
    front-put-reg _ (λ to. v.Un to c.args.op c.args.ty c.args.a) _ _ _ _ _ (record { names = c.in_ok-to.ensures.adds; block = c.in_ok-push.ensures.ok })
