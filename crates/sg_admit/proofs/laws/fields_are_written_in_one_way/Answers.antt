use Rattle.sg_admit.proofs.OneWay as proof
use Rattle.sg_admit.proofs.laws.fields_are_written_in_one_way.Goals as goal

pub returns : goal.returns
returns c = proof.fields_are_written_in_one_way
