use Rattle.std.proofs.Common.{sym}
use Rattle.sg_types.proofs.Standing.{field_stands}
use Rattle.sg_types.proofs.known.Known.has_axes.Goals as goal

pub axes-requires : goal.axes-requires
axes-requires c = field_stands c.args.self.now.names.now c.args.field.now c.in-Some.at c.args.self.now.stands (sym c.in-Some.ensures)
