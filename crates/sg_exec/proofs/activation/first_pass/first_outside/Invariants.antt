use Rattle.std.specs.Prelude.{◌≡◌, map, drop}
use Rattle.sg_flat.specs.Kernel.{first_outside}
use Rattle.sg_exec.specs.Running.{turn_of}
use Rattle.sg_exec.specs.Standing.{shapes_of}
use Rattle.sg_exec.proofs.activation.first_pass.first_outside.Given as goal

abbrev pub invariant-loop-row : goal.invariant-loop-row
invariant-loop-row l = first_outside (shapes_of l.stores.list) (map turn_of (drop l.row-index l.rows)) ≡ first_outside (shapes_of l.stores.list) (map turn_of l.rows)
