use Rattle.sg_explain.proofs.ShownLemmas.{shown-is_statement}
use Rattle.sg_explain.proofs.laws.shown_is_statement.Goals as goal

pub returns : goal.returns
returns c = shown-is_statement c.parts_are_statements.ensures c.kernel_items_are_kernels.ensures
