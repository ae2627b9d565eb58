use Rattle.std.proofs.Common.{◌≡◌, take}
use Rattle.std.specs.List.{filter}
use Rattle.sg_convert.specs.steps.Moving.{is_valued}
use Rattle.sg_convert.proofs.kept.keep_valued.Given as goal

abbrev pub invariant-loop-at : goal.invariant-loop-at
invariant-loop-at l = l.kept ≡ filter (is_valued l.store) (take l.at-index l.coords)
