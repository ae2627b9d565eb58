use Rattle.std.proofs.Common.{◌≡◌, drop}
use Rattle.sg_flat.specs.Kernel.{outside_among}
use Rattle.sg_exec.specs.Standing.{shapes_of}
use Rattle.sg_exec.proofs.activation.first_pass.outside_among.Given as goal

abbrev pub invariant-loop-write : goal.invariant-loop-write
invariant-loop-write l =
    outside_among (shapes_of l.stores.list) l.at (drop l.write-index l.writes) ≡ outside_among (shapes_of l.stores.list) l.at l.writes
