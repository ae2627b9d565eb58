use Rattle.std.proofs.Common.{◌≡◌, ◌+◌, drop}
use Rattle.sg_layout.specs.steps.WordSteps.{counted}
use Rattle.sg_layout.proofs.Tallies.{IsTally}
use Rattle.sg_layout.proofs.words.words_of.Given as goal

abbrev pub invariant-loop-node : goal.invariant-loop-node
invariant-loop-node l =
    (l.words + counted l.fields l.copies l.before (drop l.node-index l.node-items) ≡ counted l.fields 1 1 l.shape.nodes)
    × IsTally l.shape.axes (l.node-index + 1) l.fields l.copies l.before (drop l.node-index l.node-items)
