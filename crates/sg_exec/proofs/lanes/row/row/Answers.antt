use Rattle.std.proofs.Common.{◌*◌}
use Rattle.std.proofs.lemmas.Simd.{get_or-chunk}
use Rattle.sg_exec.proofs.lanes.row.row.Goals as goal

pub returns : goal.returns
returns c = λ k small. get_or-chunk (c.args.number * 32) 32 c.args.items.now k 0 small
