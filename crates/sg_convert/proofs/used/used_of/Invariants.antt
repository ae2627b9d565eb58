use Rattle.std.proofs.Common.{◌≡◌, ◌+◌, length, drop}
use Rattle.sg_convert.specs.steps.Counting.{live_in, counted}
use Rattle.sg_convert.proofs.Tallied.{IsTally}
use Rattle.sg_convert.proofs.used.used_of.Given as goal

abbrev pub invariant-loop-index : goal.invariant-loop-index
invariant-loop-index l =
    (l.words + counted (live_in l.store) (length l.store.shape.fields) l.copies l.before (l.index + 1) (drop l.index l.store.shape.nodes) ≡ counted (live_in l.store) (length l.store.shape.fields) 1 1 1 l.store.shape.nodes)
    × IsTally l.store.shape.axes (l.index + 1) (length l.store.shape.fields) l.copies l.before (drop l.index l.store.shape.nodes)
