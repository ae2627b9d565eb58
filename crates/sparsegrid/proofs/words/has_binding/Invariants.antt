use Rattle.std.specs.Prelude.{◌≡◌, false, map, take}
use Rattle.sg_session.specs.Bindings.{binding_read}
use Rattle.sparsegrid.specs.Words as spec
use Rattle.sparsegrid.proofs.words.has_binding.Given as goal

abbrev pub invariant-loop-bind : goal.invariant-loop-bind
invariant-loop-bind l = spec.has_binding (map binding_read (take l.bind-index l.binds)) l.name.text ≡ false
