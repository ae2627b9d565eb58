use Rattle.sg_words.proofs.WordLemmas.{folds_alike}
use Rattle.sg_words.proofs.laws.contributions_exchange.Goals as goal

pub returns : goal.returns
returns c = folds_alike
