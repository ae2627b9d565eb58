use Rattle.std.proofs.Common.{◌≡◌, drop}
use Rattle.sg_convert.specs.Alike.{same_types}
use Rattle.sg_convert.proofs.likeness.same_types.Given as goal

abbrev pub invariant-loop-place : goal.invariant-loop-place
invariant-loop-place l = same_types (drop l.place l.one) (drop l.place l.other) ≡ same_types l.one l.other
