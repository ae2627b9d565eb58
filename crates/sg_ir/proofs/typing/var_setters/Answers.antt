use Rattle.std.proofs.Common.{ℕ, min, ap, ◌∙◌}
use Rattle.sg_ir.specs.WellTyped.{settings}
use Rattle.sg_ir.proofs.Counting.{count-vars}
use Rattle.sg_ir.proofs.typing.var_setters.Goals as goal

pub returns : goal.returns
returns c = c.setters.ensures ∙ ap (λ (n : ℕ). min 2 n) (count-vars c.args.var (settings c.args.body.now))
