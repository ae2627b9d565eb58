use Rattle.sg_exec.proofs.DenseSteps.{slots_over_at}
use Rattle.sg_exec.proofs.lanes.dense_step.slots_over.Goals as goal

pub returns : goal.returns
returns c = λ k small. slots_over_at c.args.slots c.args.offsets c.args.size k small c.fits-slots.0 c.fits-offsets.0
