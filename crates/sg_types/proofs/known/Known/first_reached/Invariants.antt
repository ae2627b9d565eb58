use Rattle.std.proofs.Common.{◌≡◌, take}
use Rattle.sg_types.specs.Programs.{first_reached}
use Rattle.sg_types.specs.steps.Views.{reached_of}
use Rattle.sg_types.proofs.known.Known.first_reached.Given as goal

abbrev pub invariant-loop-name : goal.invariant-loop-name
invariant-loop-name l = reached_of l.at ≡ first_reached (take l.name-index l.vars)
