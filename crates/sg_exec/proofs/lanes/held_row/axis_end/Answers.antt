use Rattle.std.proofs.Common.{arith}
use Rattle.sg_exec.proofs.HeldWords.{axis_low, axis_high}
use Rattle.sg_exec.proofs.lanes.held_row.axis_end.Goals as goal

pub returns-then-extent-lt2147483648 : goal.returns-then-extent-lt2147483648
returns-then-extent-lt2147483648 c = λ word small. axis_low c.args.extent word (omega (arith, c.if-extent-lt2147483648.true)) small

pub returns-else-extent-lt2147483648 : goal.returns-else-extent-lt2147483648
returns-else-extent-lt2147483648 c = λ word small. axis_high c.args.extent word (omega (arith, c.if-extent-lt2147483648.false)) small
