use Rattle.std.proofs.Common.{◌≡◌, false, ◌++◌, drop}
use Rattle.std.specs.Prelude.{slice_index_or}
use Rattle.sg_words.specs.Stocks.{outside}
use Rattle.sg_words.proofs.links.numbers_outside.Given as goal

abbrev pub invariant-loop-number : goal.invariant-loop-number
invariant-loop-number l = l.spares ++ outside (λ x. slice_index_or l.set x false) (drop l.number-index l.first) ≡ outside (λ x. slice_index_or l.set x false) l.first
