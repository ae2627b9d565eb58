use Rattle.std.proofs.Common.{◌≡◌, take}
use Rattle.sg_activate.specs.steps.Finding.{found_in}
use Rattle.sg_activate.proofs.few.coords_of.Given as goal

abbrev pub invariant-loop-finds : goal.invariant-loop-finds
invariant-loop-finds l = l.coords ≡ found_in l.axes (take l.finds-index l.found)
