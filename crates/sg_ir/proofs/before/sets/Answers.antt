use Rattle.std.proofs.Common.{◌∙◌}
use Rattle.sg_ir.proofs.Scanning.{found-any}
use Rattle.sg_ir.proofs.before.sets.Goals as goal

pub returns : goal.returns
returns c = c.is_some.ensures ∙ found-any c.args.what c.args.done.now c.last_setter.result c.last_setter.ensures
