use Rattle.std.proofs.Common.{ap₂, ◌∙◌}
use Rattle.sg_words.specs.Words.{applied}
use Rattle.sg_exec.proofs.Rows.{put_so}
use Rattle.sg_exec.proofs.lanes.arithmetic.combine.Goals as goal

pub returns : goal.returns
returns c =
    put_so _ _ _ _ _ _ _ (λ k word small on is. is ∙ c.operate.ensures k small ∙ ap₂ (applied c.args.op c.args.ty) (c.row-x.ensures k small) (c.row-y.ensures k small)) c.put_row.ensures
