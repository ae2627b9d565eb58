use Rattle.sg_grid.proofs.Firsts.{faults_are_there}
use Rattle.sg_grid.proofs.laws.faults_are_first.Goals as goal

pub returns : goal.returns
returns c = faults_are_there c.words_are_numbers.ensures.number c.words_are_numbers.ensures.word
