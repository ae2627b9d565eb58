use Rattle.std.proofs.Common.{ℕ, get_or, ap, ap₂, ◌∙◌}
use Rattle.sg_words.specs.Words.{mulq_of}
use Rattle.sg_exec.specs.steps.Rows.{item_in}
use Rattle.sg_exec.proofs.Rows.{put_so}
use Rattle.sg_exec.proofs.lanes.arithmetic.multiply.Goals as goal

pub returns : goal.returns
returns c =
    put_so _ _ _ _ _ _ _ (λ k word small on is.
    is ∙ c.products_of.ensures k small
    ∙ ap (λ (x : ℕ). mulq_of x (get_or c.row-y.result k 0) (get_or c.row-shifts.result k 0)) (c.row-x.ensures k small)
    ∙ ap₂ (mulq_of (item_in c.args.regs.now 0 k c.args.a)) (c.row-y.ensures k small) (c.row-shifts.ensures k small)) c.put_row.ensures
