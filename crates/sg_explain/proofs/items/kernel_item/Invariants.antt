use Rattle.std.proofs.Common.{◌≡◌, length, slice_get}
use Rattle.sg_ast.specs.Items.{items_of}
use Rattle.sg_explain.specs.KernelItems.{kernel_items}
use Rattle.sg_explain.proofs.items.kernel_item.Given as goal

abbrev pub invariant-loop-rest : goal.invariant-loop-rest
invariant-loop-rest l = slice_get (kernel_items (items_of l.rest)) l.left ≡ slice_get (kernel_items (items_of l.tokens)) l.kernel

abbrev pub decreases-loop-rest : goal.decreases-loop-rest
decreases-loop-rest l = length l.rest
