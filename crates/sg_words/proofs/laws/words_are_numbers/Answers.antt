use Rattle.sg_words.proofs.WordLemmas.{word_has_number, number_has_word}
use Rattle.sg_words.proofs.laws.words_are_numbers.Goals as goal

pub returns-clause-number : goal.returns-clause-number
returns-clause-number c = word_has_number

pub returns-clause-word : goal.returns-clause-word
returns-clause-word c = number_has_word
