use Rattle.sg_words.proofs.WordLemmas.{sum_is_modular, difference_is_modular, product_is_modular}
use Rattle.sg_words.proofs.laws.arithmetic_is_modular.Goals as goal

pub returns-clause-sum : goal.returns-clause-sum
returns-clause-sum c = sum_is_modular

pub returns-clause-difference : goal.returns-clause-difference
returns-clause-difference c = difference_is_modular

pub returns-clause-product : goal.returns-clause-product
returns-clause-product c = product_is_modular
