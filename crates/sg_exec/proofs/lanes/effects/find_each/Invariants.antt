use Rattle.std.specs.Prelude.{◌≡◌, IfSome}
use Rattle.sg_exec.specs.steps.Nearby.{IsNear}
use Rattle.sg_exec.proofs.lanes.effects.find_each.Given as goal

abbrev pub invariant-loop-k : goal.invariant-loop-k
invariant-loop-k l = record {
  same : l.moments ≡ l.fn.moments;
  near : IfSome l.near (IsNear l.places.stores l.fn.layout);
}
