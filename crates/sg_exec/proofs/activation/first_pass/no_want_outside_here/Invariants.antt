use Rattle.std.specs.Prelude.{◌*◌, IfSome, map, take, Ok}
use Rattle.sg_flat.specs.declared.state.FlatState.{FlatState}
use Rattle.sg_exec.specs.steps.Machines.{Sees}
use Rattle.sg_exec.specs.steps.Moments.{IsOver, AreNamedAt, slice_turn}
use Rattle.sg_exec.specs.steps.Racing.{between}
use Rattle.sg_exec.specs.steps.Turning.{IsActiveAt, TellsOutside}
use Rattle.sg_exec.proofs.activation.first_pass.no_want_outside_here.Given as goal

abbrev pub invariant-loop-number : goal.invariant-loop-number
invariant-loop-number l = record {
  over : IsOver l.stores.list l.batch;
  found : IfSome l.last (λ it. IsActiveAt l.stores.list it.0 it.1);
  told : (state : FlatState) → Sees l.stores.list state → AreNamedAt l.stores.list state l.block (between l.from l.to l.points)
      → TellsOutside l.stores.list (map (slice_turn l.stores.list state l.block) (take (l.number * 32) (between l.from l.to l.points))) (Ok l.active);
}
