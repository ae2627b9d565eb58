use Rattle.std.proofs.Common.{◌≤◌, length}
use Rattle.sg_explain.proofs.reading.Reading.of.Given as goal

abbrev pub invariant-loop-turn : goal.invariant-loop-turn
invariant-loop-turn l = l.taken ≤ length l.tokens
