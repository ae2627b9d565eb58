use Rattle.std.proofs.Common.{◌≡◌, drop, find}
use Rattle.sg_exec.specs.steps.Written.{is_own_to}
use Rattle.sg_exec.proofs.lanes.written.Written.own_write.Given as goal

abbrev pub invariant-loop-write : goal.invariant-loop-write
invariant-loop-write l = find (is_own_to l.layout l.place) (drop l.write-index l.write-items) ≡ find (is_own_to l.layout l.place) l.write-items
