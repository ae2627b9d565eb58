use Rattle.sg_coord.proofs.Masked.{masked}
use Rattle.sg_coord.proofs.digits.wide_remainder.Goals as goal

pub returns-then-shift-size : goal.returns-then-shift-size
returns-then-shift-size c = masked 64 c.args.number c.args.size _ c.if-shift-lt64.true c.if-shift-size.true
