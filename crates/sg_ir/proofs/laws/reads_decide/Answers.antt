use Rattle.sg_ir.proofs.ReadsDecide as reads
use Rattle.sg_ir.proofs.laws.reads_decide.Goals as goal

pub returns : goal.returns
returns c = reads.reads_decide
