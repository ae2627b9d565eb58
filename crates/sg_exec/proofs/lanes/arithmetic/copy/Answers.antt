use Rattle.std.proofs.Common.{◌∙◌}
use Rattle.sg_exec.proofs.Rows.{put_so}
use Rattle.sg_exec.proofs.lanes.arithmetic.copy.Goals as goal

pub returns : goal.returns
returns c =
    put_so _ _ _ _ _ _ _ (λ k word small on is. is ∙ c.row.ensures k small) c.put_row.ensures
