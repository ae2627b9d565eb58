use Rattle.sg_grid.proofs.Accepting.{inside_test, accepts_grid_texts}
use Rattle.sg_grid.proofs.laws.grid_texts_are_read.Goals as goal

pub returns : goal.returns
returns c = accepts_grid_texts c.words_are_numbers.ensures.number c.words_are_numbers.ensures.word inside_test
