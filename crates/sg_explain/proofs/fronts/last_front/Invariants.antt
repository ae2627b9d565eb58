use Rattle.std.proofs.Common.{◌≤◌}
use Rattle.sg_explain.specs.steps.Certified.{KeepsFronts}
use Rattle.sg_explain.proofs.fronts.last_front.Given as goal

abbrev pub invariant-loop-turn : goal.invariant-loop-turn
invariant-loop-turn l = (l.least ≤ l.low) × (l.low ≤ l.high) × (l.high ≤ l.most) × KeepsFronts l.bytes l.least l.low
