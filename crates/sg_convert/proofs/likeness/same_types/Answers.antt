use Rattle.std.proofs.Common.{sym}
use Rattle.sg_convert.proofs.AlikeTests.{types_differ}
use Rattle.sg_convert.proofs.likeness.same_types.Goals as goal

pub returns-then-one-other : goal.returns-then-one-other
returns-then-one-other c = sym (types_differ c.args.one.now c.args.other.now c.if-one-other.true)
