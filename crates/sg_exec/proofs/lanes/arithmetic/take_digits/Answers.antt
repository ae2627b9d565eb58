use Rattle.std.proofs.Common.{ℕ, ◌/◌, ◌%◌, ap, ◌∙◌}
use Rattle.sg_exec.proofs.Rows.{put_so}
use Rattle.sg_exec.proofs.lanes.arithmetic.take_digits.Goals as goal

pub returns : goal.returns
returns c =
    put_so _ _ _ _ _ _ _ (λ k word small on is.
    is ∙ c.digits_of.ensures k small ∙ ap (λ (x : ℕ). x / c.args.div % c.args.size) (c.row-x.ensures k small)) c.put_row.ensures
