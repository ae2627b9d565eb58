use Rattle.std.proofs.Common.{◌≡◌, ◌++◌, take}
use Rattle.sg_activate.specs.steps.Finding.{coords_found}
use Rattle.sg_activate.proofs.few.add_coords.Given as goal

abbrev pub invariant-loop-found : goal.invariant-loop-found
invariant-loop-found l = l.coords ≡ l.fn.coords ++ coords_found l.axes (take l.found-index l.list)
