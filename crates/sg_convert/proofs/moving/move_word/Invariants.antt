use Rattle.sg_convert.specs.steps.Moving.{MovesFields}
use Rattle.sg_convert.proofs.moving.move_word.Given as goal

abbrev pub invariant-loop-place : goal.invariant-loop-place
invariant-loop-place l = MovesFields l.from l.initial.store l.store l.fn.at l.place
