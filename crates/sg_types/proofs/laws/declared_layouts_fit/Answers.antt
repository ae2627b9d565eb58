use Rattle.sg_types.proofs.DeclaredFit.{declared_layouts_fit}
use Rattle.sg_types.proofs.laws.declared_layouts_fit.Goals as goal

pub returns : goal.returns
returns c =
    declared_layouts_fit c.tables_declared.ensures.constants c.tables_declared.ensures.layouts c.tables_declared.ensures.placed
    c.look_ups_invert.ensures.fields
