use Rattle.std.specs.Prelude.{get_or}
use Rattle.sg_exec.proofs.DenseSteps.{over_at}
use Rattle.sg_exec.proofs.lanes.dense_step.row_over.Goals as goal

pub returns : goal.returns
returns c = λ k small.
    over_at c.args.view.now c.args.one c.args.node c.args.size (get_or c.args.row.now.kinds k 0) (get_or c.args.row.now.parts k 0) (get_or c.args.row.now.slots k 0) (get_or c.args.offsets k 0) _ _
    c.requires.dense (c.requires.held k small) (c.requires.one k small) (c.kinds_over.ensures k small) (c.slots_over.ensures k small)
