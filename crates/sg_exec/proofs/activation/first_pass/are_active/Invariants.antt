use Rattle.std.specs.Prelude.{All, IfSome, take}
use Rattle.sg_exec.specs.steps.Turning.{IsActive, IsActiveAt}
use Rattle.sg_exec.proofs.activation.first_pass.are_active.Given as goal

abbrev pub invariant-loop-write : goal.invariant-loop-write
invariant-loop-write l = record {
  last : IfSome l.last (λ it. IsActiveAt l.stores.list it.0 it.1);
  all : All (IsActive l.stores.list) (take l.write-index l.writes);
}
