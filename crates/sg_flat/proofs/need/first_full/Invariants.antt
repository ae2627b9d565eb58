use Rattle.std.proofs.Common.{◌≡◌, ◌+◌, drop}
use Rattle.sg_layout.specs.Need.{first_full_from}
use Rattle.sg_flat.proofs.need.first_full.Given as goal

abbrev pub invariant-loop-index : goal.invariant-loop-index
invariant-loop-index l = first_full_from l.layout l.coords (l.index + 1) (drop l.index l.layout.nodes) ≡ first_full_from l.layout l.coords 1 l.layout.nodes
