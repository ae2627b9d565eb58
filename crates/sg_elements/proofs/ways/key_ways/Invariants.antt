use Rattle.std.proofs.Common.{◌≡◌, map, take}
use Rattle.sg_elements.specs.steps.Levels.{way_of}
use Rattle.sg_elements.proofs.ways.key_ways.Given as goal

abbrev pub invariant-loop-key : goal.invariant-loop-key
invariant-loop-key l = l.ways ≡ map (way_of l.store.shape 0) (take l.key-index l.key-items)
