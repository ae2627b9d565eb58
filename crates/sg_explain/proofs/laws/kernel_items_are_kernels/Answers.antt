use Rattle.sg_explain.proofs.ItemLemmas.{kernel_items-are}
use Rattle.sg_explain.proofs.laws.kernel_items_are_kernels.Goals as goal

pub returns : goal.returns
returns c = kernel_items-are c.cut_gives_items.ensures
