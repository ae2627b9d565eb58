use Rattle.std.proofs.Common.{◌≡◌, suc, ◌+◌, cond, refl, sym, ap, ◌∙◌, arith}
use Rattle.sg_activate.proofs.DescentNodeSteps.{last-none}
use Rattle.sg_activate.proofs.DescentAdds.{last_grows}
use Rattle.sg_activate.proofs.descent.start.last_of.Goals as goal
use Rattle.sg_activate.proofs.descent.start.last_of.Goals.{then-is_fused, else-is_fused}

pub loop-index-init : goal.loop-index-init
loop-index-init c = (refl, omega arith)

pub loop-index-preserved : goal.loop-index-preserved
loop-index-preserved c =
    let i = c.loop-index.index in
    let next : i + 1 ≡ suc i = omega arith in
    last_grows c.args.nodes.now i c.loop-index.last c.if-is_fused.last _ c.loop-index-test.true c.loop-index.invariant (elim c.if-is_fused.branch [
      | then-is_fused w ↦ w.last-is ∙ next ∙ sym (ap (λ b. cond b (suc i) c.loop-index.last) (sym c.is_fused.ensures ∙ w.if-is_fused.true))
      | else-is_fused w ↦ w.last-is ∙ sym (ap (λ b. cond b (suc i) c.loop-index.last) (sym c.is_fused.ensures ∙ w.if-is_fused.false))
    ])

pub returns-clause-value : goal.returns-clause-value
returns-clause-value c =
    let nodes = c.args.nodes.now in
    sym (last-none nodes c.loop-index.index (suc c.loop-index.index) c.loop-index.last (let f = c.loop-index-test.false in omega arith)) ∙ c.loop-index.invariant.0

pub returns-clause-within : goal.returns-clause-within
returns-clause-within c = let i = c.loop-index.invariant.1 in let e = c.loop-index.auto.index-end in omega arith
