use Rattle.std.specs.Prelude.{◌≡◌, drop, map}
use Rattle.std.specs.List.{list_all}
use Rattle.sparsegrid.specs.Words as spec
use Rattle.sparsegrid.proofs.words.can_all_be_positional.Given as goal

abbrev pub invariant-loop-word : goal.invariant-loop-word
invariant-loop-word l = list_all spec.can_be_positional (map (λ word. word.now) (drop l.word-index l.words)) ≡ list_all spec.can_be_positional (map (λ word. word.now) l.words)
