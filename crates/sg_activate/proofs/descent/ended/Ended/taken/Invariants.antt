use Rattle.std.proofs.Common.{◌≡◌, length}
use Rattle.sg_activate.specs.steps.DescentEnds.{AreTaken}
use Rattle.sg_activate.proofs.descent.ended.Ended.taken.Given as goal

abbrev pub invariant-loop-index : goal.invariant-loop-index
invariant-loop-index l = record {
  many : length l.taken ≡ l.index;
  each : AreTaken l.self.start l.self.base l.self.levels l.self.links l.taken;
}
