use Rattle.std.specs.Prelude.{◌≡◌, ◌++◌, take}
use Rattle.sg_coord.specs.Bounds.{bounds_of}
use Rattle.sg_exec.specs.steps.Turning.{wanted_of}
use Rattle.sg_exec.proofs.activation.requests.add_wants.Given as goal

abbrev pub invariant-loop-write : goal.invariant-loop-write
invariant-loop-write l = l.into.items ≡ l.fn.into.items ++ wanted_of (bounds_of l.extents) l.layout (take l.write-index l.writes)
