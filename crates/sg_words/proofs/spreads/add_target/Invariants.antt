use Rattle.std.proofs.Common.{◌≡◌, ℕ, ◌+◌, ◌-◌, length, get_or, []}
use Rattle.sg_words.proofs.spreads.add_target.Given as goal

abbrev pub invariant-loop-alloc : goal.invariant-loop-alloc
invariant-loop-alloc l = (place : ℕ) → get_or l.targets.items place [] ≡ get_or l.fn.targets.items place []

abbrev pub decreases-loop-alloc : goal.decreases-loop-alloc
decreases-loop-alloc l = (l.from + 1) - length l.targets.items
