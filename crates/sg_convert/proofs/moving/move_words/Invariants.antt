use Rattle.std.proofs.Common.{take}
use Rattle.sg_convert.specs.steps.Moving.{HasMoved}
use Rattle.sg_convert.proofs.moving.move_words.Given as goal

abbrev pub invariant-loop-at : goal.invariant-loop-at
invariant-loop-at l = HasMoved l.from l.initial.store l.store (take l.at-index l.coords)
