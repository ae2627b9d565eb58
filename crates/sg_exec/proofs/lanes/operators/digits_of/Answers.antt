use Rattle.std.proofs.Common.{ℕ, ◌/◌, ◌%◌, get_or, refl, ap, ◌∙◌, arith}
use Rattle.sg_exec.proofs.EachLane.{are_none, are_more}
use Rattle.sg_exec.proofs.lanes.operators.digits_of.Goals as goal

pub loop-k-init : goal.loop-k-init
loop-k-init c = are_none _ _ refl

pub loop-k-preserved : goal.loop-k-preserved
loop-k-preserved c =
    are_more _ c.loop-k.k c.loop-k.words c.digit.result (omega arith) c.loop-k.invariant
    (c.digit.ensures ∙ ap (λ (d : ℕ). get_or c.args.a c.loop-k.k 0 / d % c.of-digits.result.size) c.of-digits.ensures.div ∙ ap (λ (s : ℕ). get_or c.args.a c.loop-k.k 0 / c.args.div % s) c.of-digits.ensures.size)

pub returns : goal.returns
returns c = λ k small. c.loop-k.invariant.each k (omega (arith, small))
