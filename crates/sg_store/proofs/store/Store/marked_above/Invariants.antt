use Rattle.std.proofs.Common.{◌≡◌}
use Rattle.sg_store.specs.steps.StorePlans.{marked_above}
use Rattle.sg_store.proofs.store.Store.marked_above.Given as goal

abbrev pub invariant-loop-above : goal.invariant-loop-above
invariant-loop-above l = l.places ≡ marked_above l.self l.above
