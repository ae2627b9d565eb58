-- Down checked layouts words lead to the places of their coordinates.
use Rattle.std.specs.Prelude.{◌≡◌, ℕ, zero, suc, ◌<◌, List, [], ◌∷◌, length, get_or, slice_get, Some}
use Rattle.std.proofs.Common.{arith}
use Rattle.sg_words.specs.WordLaws.{IsWord}
use Rattle.sg_coord.specs.Bounds.{IsBounds}
use Rattle.sg_coord.specs.Laws.{InsideTest}
use Rattle.sg_layout.specs.declared.shape.Shape.{Shape}
use Rattle.sg_layout.specs.Accepted.{IsAccepted}
use Rattle.sg_layout.specs.Axes.{bounds_of_shape}
use Rattle.sg_layout.specs.PathLaws.{PathIsSlot, WholePathIsOffsets}
use Rattle.sg_ir.proofs.Uses.{walk-leads}
use Rattle.sg_ir.proofs.Uses.{whole_slot}
use Rattle.sg_simplify.specs.steps.Counted.{CanBeWalked}
use Rattle.sg_simplify.proofs.Naming.{each_all}

pub are_laid : (shapes : List Shape) → ((layout : ℕ) (shape : Shape) → slice_get shapes layout ≡ Some shape → IsAccepted shape × IsBounds (bounds_of_shape shape)) → InsideTest
    → ((shape : Shape) → PathIsSlot shape) → ((shape : Shape) → WholePathIsOffsets shape) → CanBeWalked shapes
are_laid shapes checked test is_slot whole layout shape there =
    let good = checked layout shape there in
    (good.1.some_axis, λ words long each. walk-leads shapes layout shape words there good.0 good.1 test (whole_slot shape good.0 (is_slot shape) (whole shape)) long (each_all IsWord words each))

-- what holds of an item that is there
pub got : {A : Type 0} (xs : List A) (i : ℕ) (x y : A) → slice_get xs i ≡ Some y → x ≡ get_or xs i x → x ≡ y
got [] i x y there is = absurd (cc)
got (z ∷ zs) zero x y there is = cc
got (z ∷ zs) (suc i) x y there is = got zs i x y there is

pub within : {A : Type 0} (xs : List A) (i : ℕ) (y : A) → slice_get xs i ≡ Some y → i < length xs
within [] i y there = absurd (cc)
within (z ∷ zs) zero y there = omega arith
within (z ∷ zs) (suc i) y there = let h = within zs i y there in omega arith
