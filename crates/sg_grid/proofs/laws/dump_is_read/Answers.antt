use Rattle.std.proofs.Common.{arith}
use Rattle.sg_layout.specs.Axes.{bounds_of_shape}
use Rattle.sg_grid.specs.Dump.{field_rows, field_type}
use Rattle.sg_grid.proofs.Accepting.{inside_test}
use Rattle.sg_grid.proofs.Dumps.{rows_many, field_rows_are}
use Rattle.sg_grid.proofs.laws.dump_is_read.Goals as goal

pub returns : goal.returns
returns c shape bounds flat is place few short =
    c.written_is_read.ensures (bounds_of_shape shape) (field_type shape place) bounds (field_rows shape flat place)
    (field_rows_are c.strict_order.ensures.test inside_test shape (c.closure_members.ensures.inside shape) (c.closure_members.ensures.in_order shape) flat is place)
    (omega (arith, rows_many shape flat place, few)) short
