use Rattle.std.proofs.Common.{◌≡◌}
use Rattle.std.specs.Prelude.{drop}
use Rattle.sg_snapshot.specs.Restoring.{first_too_full}
use Rattle.sg_snapshot.proofs.Fillings.{Stand}
use Rattle.sg_snapshot.proofs.restoring.filled.Given as goal

abbrev pub invariant-loop-number : goal.invariant-loop-number
invariant-loop-number l = record {
  full : first_too_full l.number (drop l.number l.layouts) (drop l.number l.parts) ≡ first_too_full 0 l.layouts l.parts;
  stand : Stand l.layouts l.parts l.number l.list;
}
