use Rattle.std.proofs.Common.{◌≡◌, sym, arith}
use Rattle.std.specs.Prelude.{Option, IfSome}
use Rattle.sg_exec.proofs.FieldValues.{field_found}
use Rattle.sg_exec.proofs.lanes.row_values.cells_after.Goals as goal

pub returns-in-Some : goal.returns-in-Some
returns-in-Some c = field_found c.args.view.now c.args.one c.args.field c.in-Some.store.now c.cells_in.result (omega (arith, c.if-one-eq0.false)) (sym c.in-Some.ensures.value) c.cells_in.ensures
