use Rattle.std.specs.Prelude.{◌≡◌, All, IfSome, IsTrue, map, drop, take}
use Rattle.sg_flat.specs.declared.state.FlatState.{FlatState}
use Rattle.sg_flat.specs.Effects.{writes_of}
use Rattle.sg_flat.specs.Kernel.{first_outside}
use Rattle.sg_exec.specs.Standing.{shapes_of}
use Rattle.sg_exec.specs.steps.Machines.{Sees}
use Rattle.sg_exec.specs.steps.Moments.{AreNamedAt, slice_turn}
use Rattle.sg_exec.specs.steps.Turning.{IsActive, IsActiveAt}
use Rattle.sg_exec.proofs.activation.first_pass.no_want_outside_among.Given as goal

abbrev pub invariant-loop-k : goal.invariant-loop-k
invariant-loop-k l = record {
  none : (state : FlatState) → Sees l.stores.list state → AreNamedAt l.stores.list state l.block l.points
      → first_outside (shapes_of l.stores.list) (map (slice_turn l.stores.list state l.block) (drop l.k l.points))
      ≡ first_outside (shapes_of l.stores.list) (map (slice_turn l.stores.list state l.block) l.points);
  found : IfSome l.last (λ it. IsActiveAt l.stores.list it.0 it.1);
  so_far : IsTrue l.all → IsTrue l.fn.active;
  active : IsTrue l.all → (state : FlatState) → Sees l.stores.list state → AreNamedAt l.stores.list state l.block l.points
      → All (IsActive l.stores.list) (writes_of (map (slice_turn l.stores.list state l.block) (take l.k l.points)));
}
