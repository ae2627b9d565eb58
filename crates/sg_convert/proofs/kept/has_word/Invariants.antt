use Rattle.std.proofs.Common.{◌≡◌, drop}
use Rattle.sg_convert.specs.steps.Moving.{has_word_in, has_word}
use Rattle.sg_convert.proofs.kept.has_word.Given as goal

abbrev pub invariant-loop-place : goal.invariant-loop-place
invariant-loop-place l = has_word_in (drop l.place l.store.fields) l.cell ≡ has_word l.store l.cell
