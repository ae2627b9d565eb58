use Rattle.std.proofs.Common.{ℕ, ◌<◌, get_or}
use Rattle.sg_flat.specs.steps.Blocks.{HasNeighbours}
use Rattle.sg_flat.proofs.blocks.Blocks.have_neighbours.Given as goal

abbrev pub invariant-loop-index : goal.invariant-loop-index
invariant-loop-index l = (k d : ℕ) → k < l.index → HasNeighbours l.self l.rows (get_or l.rows k d)
