use Rattle.std.proofs.Common.{ℕ, get_or, sym, ap, ◌∙◌}
use Rattle.sg_exec.proofs.lanes.row_values.words_at.Goals as goal

pub follow-requires : goal.follow-requires
follow-requires c = record { few = c.has_row.ensures.few c.if-not-has_row.false; counts = c.lane_numbers.ensures }

pub words_from-requires : goal.words_from-requires
words_from-requires c = c.has_row.ensures.room c.if-not-has_row.false

pub returns : goal.returns
returns c = λ k small.
    c.words_from.ensures k small ∙ ap (λ (n : ℕ). get_or c.args.words.now n 0) (sym (c.follow.ensures c.if-not-follow.false k small))
