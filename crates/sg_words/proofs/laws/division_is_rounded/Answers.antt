use Rattle.sg_words.proofs.WordLemmas.{quotient_is_truncated, floor_is_greatest}
use Rattle.sg_words.proofs.laws.division_is_rounded.Goals as goal

pub returns-clause-quotient : goal.returns-clause-quotient
returns-clause-quotient c = quotient_is_truncated

pub returns-clause-floor : goal.returns-clause-floor
returns-clause-floor c = floor_is_greatest
