use Rattle.std.proofs.Common.{◌≡◌, length}
use Rattle.sg_explain.specs.Fronts.{end_of}
use Rattle.sg_explain.proofs.fronts.end_of.Given as goal

abbrev pub invariant-loop-rest : goal.invariant-loop-rest
invariant-loop-rest l = end_of l.end l.rest ≡ end_of 0 l.tokens

abbrev pub decreases-loop-rest : goal.decreases-loop-rest
decreases-loop-rest l = length l.rest
