use Rattle.sg_exec.proofs.FieldValues.{lane_follows}
use Rattle.sg_exec.proofs.lanes.row_values.follow.Goals as goal

pub returns : goal.returns
returns c = λ is k small.
    lane_follows c.args.numbers c.args.counts c.args.first k small c.requires.few c.fits-numbers.0 c.fits-numbers.1 c.fits-counts.0 (c.requires.counts k small) (c.are_all.ensures is k small)
