use Rattle.std.proofs.Common.{◌≡◌, Some}
use Rattle.sg_layout.specs.Path.{path}
use Rattle.sg_store.specs.Walks.{place_after}
use Rattle.sg_store.specs.steps.Walking.{step_of_walk}
use Rattle.sg_store.proofs.store.Store.place_of.Given as goal

abbrev pub invariant-loop-index : goal.invariant-loop-index
invariant-loop-index l = place_after (step_of_walk l.bits) l.self.shape.nodes l.self.nodes 0 (path l.self.shape l.at l.index) ≡ Some l.place
