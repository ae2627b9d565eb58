use Rattle.std.proofs.Common.{◌∙◌}
use Rattle.std.proofs.lemmas.Simd.{get_or-replicate}
use Rattle.sg_exec.proofs.Rows.{put_so}
use Rattle.sg_exec.proofs.lanes.arithmetic.fill.Goals as goal

pub returns : goal.returns
returns c =
    put_so _ _ _ _ _ _ _ (λ k word small on is. is ∙ get_or-replicate 32 k c.args.word 0 small) c.put_row.ensures
