use Rattle.sg_store.proofs.OneFlat as lemmas
use Rattle.sg_store.proofs.laws.same_values.Goals as goal

pub returns : goal.returns
returns c = lemmas.same_values
