use Rattle.std.proofs.lemmas.Simd.{get_or-chunk}
use Rattle.sg_exec.proofs.lanes.row_values.words_from.Goals as goal

pub returns : goal.returns
returns c = λ k small. get_or-chunk c.args.first 32 c.args.words.now k 0 small
