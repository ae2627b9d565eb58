use Rattle.sg_admit.proofs.Wants as proof
use Rattle.sg_admit.proofs.laws.slice_wants_what_is_written.Goals as goal

pub returns : goal.returns
returns c = proof.slice_wants
