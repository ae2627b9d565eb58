use Rattle.sg_grid.proofs.Accepting.{inside_test}
use Rattle.sg_grid.proofs.RunRows as rows
use Rattle.sg_grid.proofs.laws.runs_are_rows.Goals as goal

pub returns-clause-runs : goal.returns-clause-runs
returns-clause-runs c = rows.runs_are_rows inside_test c.strict_order.ensures.test

pub returns-clause-read : goal.returns-clause-read
returns-clause-read c = rows.reads_rows c.words_are_numbers.ensures.word inside_test c.strict_order.ensures.test
