-- What every layout keeps.
use Rattle.std.specs.Prelude.{◌≡◌, IsTrue, Ok}
use Rattle.sg_layout.specs.declared.shape.Shape.{Shape}
use Rattle.sg_layout.specs.Rules.{is_declared, checked_shape}

-- a shape that layouts are built of: it was declared, and it keeps all rules
pub record IsAccepted (shape : Shape) : Type 0 where
  pub declared : IsTrue (is_declared shape)
  pub keeps_rules : checked_shape shape ≡ Ok shape
