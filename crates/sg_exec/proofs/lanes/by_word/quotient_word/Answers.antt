use Rattle.std.proofs.Common.{◌/◌, ℕ, ap, ◌∙◌, arith, pow_pos}
use Rattle.sg_exec.proofs.ByWord.{signed_is, div_few}
use Rattle.sg_exec.proofs.lanes.by_word.quotient_word.Goals as goal

pub returns : goal.returns
returns c =
    c.with_sign.ensures
    ∙ signed_is c.args.a c.args.div c.quotient_of.result (omega arith) (omega (arith, c.requires.low, pow_pos c.args.log)) (div_few c.args.div c.args.log c.requires.log c.requires.high)
    (c.quotient_of.ensures.is ∙ ap (λ (n : ℕ). n / c.args.div) c.size_of.ensures.is)
