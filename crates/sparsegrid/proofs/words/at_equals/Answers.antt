use Rattle.sparsegrid.proofs.Cuts.{cut_at_equals}
use Rattle.sparsegrid.proofs.words.at_equals.Goals as goal

pub returns : goal.returns
returns c = cut_at_equals c.args.word.now c.split_once.result c.split_once.ensures.cases
