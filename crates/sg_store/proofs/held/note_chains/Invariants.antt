use Rattle.sg_store.specs.steps.Noting.{ChainsNoted}
use Rattle.sg_store.proofs.held.note_chains.Given as goal

abbrev pub invariant-loop-head : goal.invariant-loop-head
invariant-loop-head l = ChainsNoted l.chains l.full l.head l.fn.slots l.slots
