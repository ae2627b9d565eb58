use Rattle.std.proofs.Common.{◌≡◌, ℕ, ◌+◌, ◌-◌, length}
use Rattle.sg_words.specs.Spread.{bears_mark}
use Rattle.sg_words.proofs.spreads.mark.Given as goal

abbrev pub invariant-loop-marks : goal.invariant-loop-marks
invariant-loop-marks l = (other : ℕ) → bears_mark l.marks other ≡ bears_mark l.fn.marks other

abbrev pub decreases-loop-marks : goal.decreases-loop-marks
decreases-loop-marks l = (l.place + 1) - length l.marks
