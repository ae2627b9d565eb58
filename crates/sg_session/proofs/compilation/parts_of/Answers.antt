use Rattle.sg_session.proofs.Kept.{layouts_fit}
use Rattle.sg_session.proofs.compilation.parts_of.Goals as goal

pub kernels_of-requires-clause-fit : goal.kernels_of-requires-clause-fit
kernels_of-requires-clause-fit c =
    layouts_fit c.args.program.now c.args.names.now c.in_ok-layouts.layouts.list c.declared_layouts_fit.ensures c.requires.names c.in_ok-layouts.ensures
