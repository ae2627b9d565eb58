use Rattle.sg_words.proofs.WordLemmas.{folded_is_applied}
use Rattle.sg_words.proofs.laws.folding_is_applying.Goals as goal

pub returns : goal.returns
returns c = folded_is_applied
