use Rattle.std.proofs.Common.{◌≡◌, ◌++◌, take}
use Rattle.sg_flat.specs.Effects.{written_in}
use Rattle.sg_flat.proofs.kernel.active_and_written.Given as goal

abbrev pub invariant-loop-turn : goal.invariant-loop-turn
invariant-loop-turn l = l.coords ≡ l.flat.active ++ written_in l.number (take l.turn-index l.effects.turns)
