use Rattle.std.proofs.Common.{ℕ, ◌==◌, ap, ◌∙◌}
use Rattle.sg_ir.specs.WellTyped.{setters_in}
use Rattle.sg_ir.proofs.Judgement.{min-zero}
use Rattle.sg_ir.proofs.typing.is_unset.Goals as goal

pub returns : goal.returns
returns c = ap (λ (n : ℕ). n == 0) c.var_setters.ensures ∙ min-zero (setters_in c.args.body.now c.args.var)
