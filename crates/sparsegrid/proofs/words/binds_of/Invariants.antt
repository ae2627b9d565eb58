use Rattle.std.specs.Prelude.{◌≡◌, [], map, drop}
use Rattle.sg_session.specs.Bindings.{binding_read}
use Rattle.sparsegrid.specs.Words as spec
use Rattle.sparsegrid.proofs.words.binds_of.Given as goal

abbrev pub invariant-loop-word : goal.invariant-loop-word
invariant-loop-word l = spec.bindings_after (map binding_read l.binds) (map (λ word. word.now) (drop l.word-index l.words)) ≡ spec.bindings_after [] (map (λ word. word.now) l.words)
