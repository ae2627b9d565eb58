use Rattle.sg_exec.proofs.HeldWords.{word_back}
use Rattle.sg_exec.proofs.lanes.held_row.words_for.Goals as goal

pub returns : goal.returns
returns c = word_back c.args.held c.requires
