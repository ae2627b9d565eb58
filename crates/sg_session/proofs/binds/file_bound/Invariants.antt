use Rattle.std.proofs.Common.{◌≡◌, map, drop}
use Rattle.sg_session.specs.Bindings.{binding_read, file_bound}
use Rattle.sg_session.proofs.binds.file_bound.Given as goal

abbrev pub invariant-loop-bind : goal.invariant-loop-bind
invariant-loop-bind l = file_bound (map binding_read (drop l.bind-index l.bind-items)) l.name ≡ file_bound (map binding_read l.binds.list) l.name
