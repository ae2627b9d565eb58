use Rattle.sg_store.specs.steps.Noting.{LinksBelow}
use Rattle.sg_store.proofs.store.Store.links_of.Given as goal

abbrev pub invariant-loop-number : goal.invariant-loop-number
invariant-loop-number l = LinksBelow l.self l.index l.number l.links.items
