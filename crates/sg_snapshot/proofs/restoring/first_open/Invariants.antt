use Rattle.std.proofs.Common.{◌≡◌}
use Rattle.std.specs.Prelude.{drop}
use Rattle.sg_snapshot.specs.Restoring.{first_open}
use Rattle.sg_snapshot.proofs.restoring.first_open.Given as goal

abbrev pub invariant-loop-number : goal.invariant-loop-number
invariant-loop-number l = first_open l.number (drop l.number l.layouts) (drop l.number l.parts) ≡ first_open 0 l.layouts l.parts
