use Rattle.std.proofs.Common.{◌≡◌, ℕ, ◌<◌, Some}
use Rattle.std.specs.Prelude.{slice_get}
use Rattle.sg_coord.specs.Bounds.{IsBounds}
use Rattle.sg_layout.specs.declared.shape.Shape.{Shape}
use Rattle.sg_layout.specs.Accepted.{IsAccepted}
use Rattle.sg_layout.specs.Axes.{bounds_of_shape}
use Rattle.sg_simplify.proofs.simple.layouts_keep.Given as goal

abbrev pub invariant-loop-layout : goal.invariant-loop-layout
invariant-loop-layout l =
    (k : ℕ) → k < l.layout-index → (shape : Shape) → slice_get l.layouts.list k ≡ Some shape → IsAccepted shape × IsBounds (bounds_of_shape shape)
