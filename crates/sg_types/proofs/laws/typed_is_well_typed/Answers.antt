use Rattle.sg_types.proofs.FitKernels.{typed_is_well_typed}
use Rattle.sg_types.proofs.laws.typed_is_well_typed.Goals as goal

pub returns : goal.returns
returns c = typed_is_well_typed
