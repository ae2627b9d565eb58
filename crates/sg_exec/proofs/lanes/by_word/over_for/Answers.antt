use Rattle.std.proofs.Common.{◌+◌, ◌/◌, ℕ, ap, arith}
use Rattle.sg_exec.proofs.ByWord.{power_fits}
use Rattle.sg_exec.proofs.lanes.by_word.over_for.Goals as goal

pub returns : goal.returns
returns c = ap (λ (n : ℕ). n / c.args.div + 1) (omega (arith, power_fits c.args.log c.requires.log))
