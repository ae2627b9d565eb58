use Rattle.sg_coord.specs.Bounds.{bounds_of}
use Rattle.sg_coord.proofs.RowLaws as laws
use Rattle.sg_coord.proofs.laws.row_order.Goals as goal

pub returns-clause-here : goal.returns-clause-here
returns-clause-here c = laws.row_order (bounds_of c.args.extents.now) c.args.x c.args.y c.requires.x_inside c.requires.y_inside

pub returns-clause-everywhere : goal.returns-clause-everywhere
returns-clause-everywhere c = laws.row_order
