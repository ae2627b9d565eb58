use Rattle.std.proofs.Common.{◌∙◌}
use Rattle.sg_session.proofs.grids.row_run.Goals as goal

pub returns-clause-short : goal.returns-clause-short
returns-clause-short c =
    let short = c.is_run_inside.ensures.short (c.is_run_inside.ensures.value ∙ c.requires) in
    record { a_low = short.a_low; b_low = short.b_low; c_low = short.c_low; a_high = short.a_high; b_high = short.b_high; c_high = short.c_high }
