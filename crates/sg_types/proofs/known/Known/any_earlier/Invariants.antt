use Rattle.std.proofs.Common.{◌≡◌, drop}
use Rattle.sg_types.specs.Programs.{any_earlier}
use Rattle.sg_types.specs.steps.Views.{known_view}
use Rattle.sg_types.proofs.known.Known.any_earlier.Given as goal

abbrev pub invariant-loop-name : goal.invariant-loop-name
invariant-loop-name l = any_earlier (known_view l.self) (drop l.name-index l.names) ≡ any_earlier (known_view l.self) l.names
