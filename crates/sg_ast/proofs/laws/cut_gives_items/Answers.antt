use Rattle.sg_ast.proofs.ItemCuts.{cut-items, are_left-items}
use Rattle.sg_ast.proofs.laws.cut_gives_items.Goals as goal

pub returns : goal.returns
returns c = λ program good. (cut-items program.items good, are_left-items program.items good)
