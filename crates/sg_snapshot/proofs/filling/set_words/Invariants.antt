use Rattle.std.proofs.Common.{◌≡◌, ◌-◌, length}
use Rattle.sg_store.specs.StandsFor.{StandsFor}
use Rattle.sg_snapshot.specs.Restoring.{points_in}
use Rattle.sg_snapshot.specs.steps.Laying.{laid, IsLaid, beside_from}
use Rattle.sg_snapshot.proofs.filling.set_words.Given as goal

abbrev pub invariant-loop-done : goal.invariant-loop-done
invariant-loop-done l = record {
  same_shape : l.store.shape ≡ l.fn.store.shape;
  stands : StandsFor l.fn.store (laid l.fn.store.shape (points_in l.fn.store.shape l.part) (λ place row. 0))
      → IsLaid l.fn.store.shape (points_in l.fn.store.shape l.part) (beside_from l.part (length l.part.rows - l.done))
      × StandsFor l.store (laid l.fn.store.shape (points_in l.fn.store.shape l.part) (beside_from l.part (length l.part.rows - l.done)));
}
