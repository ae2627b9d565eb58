use Rattle.sg_coord.proofs.Masked.{digit_masked}
use Rattle.sg_coord.proofs.digits.Digits.of.Goals as goal

pub invariant_of-result-clause-small : goal.invariant_of-result-clause-small
invariant_of-result-clause-small c = c.if-shift-lt32.true

pub invariant_of-result-clause-shifts : goal.invariant_of-result-clause-shifts
invariant_of-result-clause-shifts c = λ is word. digit_masked c.args.div c.args.size _ _ c.if-shift-lt32.true c.if-bits-lt32.true c.if-shift-div.true c.if-bits-size.true word
