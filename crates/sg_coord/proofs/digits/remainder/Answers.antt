use Rattle.sg_coord.proofs.Masked.{masked}
use Rattle.sg_coord.proofs.digits.remainder.Goals as goal

pub returns-then-shift-size : goal.returns-then-shift-size
returns-then-shift-size c = masked 32 c.args.word c.args.size _ c.if-shift-lt32.true c.if-shift-size.true
