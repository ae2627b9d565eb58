use Rattle.std.proofs.Common.{ℕ, ◌+◌, ◌*◌, ◌%◌, ◌^◌, ap₂, ◌∙◌}
use Rattle.sg_exec.proofs.Rows.{put_so}
use Rattle.sg_exec.proofs.lanes.arithmetic.join.Goals as goal

pub returns : goal.returns
returns c =
    put_so _ _ _ _ _ _ _ (λ k word small on is.
    is ∙ c.joined_by.ensures k small ∙ ap₂ (λ (x y : ℕ). (x * c.args.size + y) % 2 ^ 32) (c.row-x.ensures k small) (c.row-y.ensures k small)) c.put_row.ensures
