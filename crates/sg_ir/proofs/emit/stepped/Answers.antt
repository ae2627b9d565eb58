use Rattle.std.proofs.Common.{ℕ, List, ◌∙◌, ◌∷◌, ◌++◌, [], ap, refl}
use Rattle.sg_ir.specs.StepDown.{child_inst}
use Rattle.sg_ir.specs.Trimmed.{Ways, way_of}
use Rattle.sg_ir.specs.Emits.{AtPlace}
use Rattle.sg_ir.proofs.Trailing.{trail-step}
use Rattle.sg_ir.proofs.Stepping.{does-step}
use Rattle.sg_ir.proofs.Emitting.{reaches}
use Rattle.sg_ir.proofs.Fronts.{front-kept, front-place, front-put-place}
use Rattle.sg_ir.proofs.emit.stepped.Goals as goal

pub returns-clause-reaches : goal.returns-clause-reaches
returns-clause-reaches c =
    reaches _ (AtPlace c.args.place) (λ ways. way_of ways c.args.place) (λ to. child_inst c.args.kind to c.args.place c.args.node c.args.offset) _ _ _ _ _ (λ seen now. does-step seen c.args.kind c.in_ok-to.to c.args.place c.args.node c.args.offset now)
    (λ ways. ap (λ (t : List ℕ × Ways). t.1) (trail-step c.args.kind c.in_ok-to.to c.args.place c.args.node c.args.offset ways)) (λ ways. refl)
    (record { names = c.in_ok-to.ensures.adds; block = c.in_ok-push.ensures.ok ∙ ap (λ inst. c.args.block.now ++ inst ∷ []) c.step.ensures })

pub returns-in_err-to-clause-front : goal.returns-in_err-to-clause-front
returns-in_err-to-clause-front c = front-kept _ _ _ _ c.in_err-to.ensures.kept refl

pub returns-in_err-push-clause-front : goal.returns-in_err-push-clause-front
returns-in_err-push-clause-front c = front-place _ _ _ _ _ c.in_ok-to.ensures.adds c.in_err-push.ensures.err

pub returns-clause-front : goal.returns-clause-front
returns-clause-front c =
    front-put-place (λ to. child_inst c.args.kind to c.args.place c.args.node c.args.offset) _ _ _ _ _ (record { names = c.in_ok-to.ensures.adds; block = c.in_ok-push.ensures.ok ∙ ap (λ inst. c.args.block.now ++ inst ∷ []) c.step.ensures })
