use Rattle.std.proofs.Common.{◌≡◌, drop}
use Rattle.sg_flat.specs.Kernel.{outside_among}
use Rattle.sg_flat.proofs.kernel.outside_among.Given as goal

abbrev pub invariant-loop-write : goal.invariant-loop-write
invariant-loop-write l =
    outside_among l.layouts.list l.turn.at (drop l.write-index l.turn.writes) ≡ outside_among l.layouts.list l.turn.at l.turn.writes
