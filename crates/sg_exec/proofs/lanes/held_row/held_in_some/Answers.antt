use Rattle.std.proofs.Common.{refl}
use Rattle.std.specs.Prelude.{get_or, ◌==◌}
use Rattle.sg_exec.proofs.HeldWords.{kept_on, kept_off}
use Rattle.sg_exec.proofs.lanes.held_row.held_in_some.Goals as goal

pub returns-clause-on : goal.returns-clause-on
returns-clause-on c = λ k small on. kept_on (get_or c.args.columns.now.on k 0 == 0) c.args.row.now _ k (c.words_where.ensures k small) refl refl on

pub returns-clause-others : goal.returns-clause-others
returns-clause-others c = λ k small off. kept_off (get_or c.args.columns.now.on k 0 == 0) c.args.row.now _ k (c.words_where.ensures k small) off
