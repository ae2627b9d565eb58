use Rattle.sg_store.specs.steps.Marks.{AreMarked}
use Rattle.sg_store.proofs.store.Store.cells_in_use.Given as goal

abbrev pub invariant-loop-index : goal.invariant-loop-index
invariant-loop-index l = AreMarked l.fn.self l.index l.places
