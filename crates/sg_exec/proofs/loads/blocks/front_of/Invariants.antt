use Rattle.sg_layout.specs.Path.{path}
use Rattle.sg_store.specs.Spots.{LeadsAlong}
use Rattle.sg_exec.proofs.loads.blocks.front_of.Given as goal

abbrev pub invariant-loop-index : goal.invariant-loop-index
invariant-loop-index l = LeadsAlong l.store l.spot (path l.store.shape l.at l.index)
