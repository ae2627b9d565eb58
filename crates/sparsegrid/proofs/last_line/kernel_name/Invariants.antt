use Rattle.std.proofs.Common.{◌≡◌, drop}
use Rattle.std.specs.Prelude.{slice_get}
use Rattle.sparsegrid.specs.Lines.{kernel_names}
use Rattle.sparsegrid.proofs.last_line.kernel_name.Given as goal

abbrev pub invariant-loop-item : goal.invariant-loop-item
invariant-loop-item l = slice_get (kernel_names (drop l.item-index l.items)) l.left ≡ slice_get (kernel_names l.items) l.number
