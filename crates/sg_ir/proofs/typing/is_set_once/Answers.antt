use Rattle.std.proofs.Common.{ℕ, ◌==◌, ap, ◌∙◌}
use Rattle.sg_ir.specs.WellTyped.{setters_in}
use Rattle.sg_ir.proofs.Judgement.{min-one}
use Rattle.sg_ir.proofs.typing.is_set_once.Goals as goal

pub returns : goal.returns
returns c = ap (λ (n : ℕ). n == 1) c.var_setters.ensures ∙ min-one (setters_in c.args.body.now c.args.var)
