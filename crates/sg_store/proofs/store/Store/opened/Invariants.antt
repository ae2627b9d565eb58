use Rattle.sg_store.proofs.Reached.{IsReaching}
use Rattle.sg_store.proofs.store.Store.opened.Given as goal

abbrev pub invariant-loop-index : goal.invariant-loop-index
invariant-loop-index l = IsReaching l.fn.self l.next l.wanted l.index
