use Rattle.std.proofs.Common.{refl, sym, ◌∙◌}
use Rattle.std.specs.Prelude.{get_or, ◌==◌}
use Rattle.sg_exec.proofs.HeldWords.{one_from}
use Rattle.sg_exec.proofs.lanes.held_row.one_of.Goals as goal

pub returns-then-are_all : goal.returns-then-are_all
returns-then-are_all c = λ k small. one_from (get_or c.args.kinds k 0 == 0) (get_or c.args.kinds k 0) _ refl (sym (c.filled.ensures k small) ∙ c.if-are_all.ensures refl k small)
