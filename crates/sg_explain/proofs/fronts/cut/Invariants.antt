use Rattle.std.proofs.Common.{◌≡◌, ◌+◌, ◌-◌, ◌≤◌, length, take}
use Rattle.sg_explain.proofs.fronts.cut.Given as goal

abbrev pub invariant-loop-turn : goal.invariant-loop-turn
invariant-loop-turn l = (take l.taken l.list ≡ take l.taken l.initial.list) × (length l.list ≤ l.taken + (l._turn-end - l._turn))
