use Rattle.std.proofs.Common.{◌≡◌, true, sym, subst}
use Rattle.sg_layout.specs.declared.shape.Shape.{Shape}
use Rattle.sg_layout.specs.Rules.{is_declared}
use Rattle.sg_session.proofs.layouts.checked_layout.Goals as goal

pub check_layout-requires : goal.check_layout-requires
check_layout-requires c = record { declared = subst (λ (s : Shape). is_declared s ≡ true) (sym c.in_ok-shape.ensures) c.requires }
