use Rattle.sg_coord.proofs.SliceLaws as laws
use Rattle.sg_coord.proofs.laws.slices_partition.Goals as goal

pub returns-clause-here : goal.returns-clause-here
returns-clause-here c = laws.slices_partition c.args.len c.args.workers c.requires

pub returns-clause-everywhere : goal.returns-clause-everywhere
returns-clause-everywhere c = laws.slices_partition
