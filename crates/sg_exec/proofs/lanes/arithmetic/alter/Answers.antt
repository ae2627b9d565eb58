use Rattle.std.proofs.Common.{ap, ◌∙◌}
use Rattle.sg_words.specs.Words.{applied_un}
use Rattle.sg_exec.proofs.Rows.{put_so}
use Rattle.sg_exec.proofs.lanes.arithmetic.alter.Goals as goal

pub returns : goal.returns
returns c =
    put_so _ _ _ _ _ _ _ (λ k word small on is. is ∙ c.operate_one.ensures k small ∙ ap (applied_un c.args.op) (c.row-x.ensures k small)) c.put_row.ensures
