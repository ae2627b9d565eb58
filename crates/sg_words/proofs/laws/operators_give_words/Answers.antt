use Rattle.sg_words.proofs.WordLemmas.{applied_is_word, applied_un_is_word, mulq_is_word, folded_is_word}
use Rattle.sg_words.proofs.laws.operators_give_words.Goals as goal

pub returns-clause-applied : goal.returns-clause-applied
returns-clause-applied c = applied_is_word

pub returns-clause-applied_un : goal.returns-clause-applied_un
returns-clause-applied_un c = applied_un_is_word

pub returns-clause-mulq : goal.returns-clause-mulq
returns-clause-mulq c = mulq_is_word

pub returns-clause-folded : goal.returns-clause-folded
returns-clause-folded c = folded_is_word
