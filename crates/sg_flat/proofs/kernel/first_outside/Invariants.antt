use Rattle.std.proofs.Common.{◌≡◌, drop}
use Rattle.sg_flat.specs.Kernel.{first_outside}
use Rattle.sg_flat.proofs.kernel.first_outside.Given as goal

abbrev pub invariant-loop-turn : goal.invariant-loop-turn
invariant-loop-turn l = first_outside l.layouts.list (drop l.turn-index l.effects.turns) ≡ first_outside l.layouts.list l.effects.turns
