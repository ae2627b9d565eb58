-- Worked equations: what code tells for writes into the second of two layouts, which has 8 points; the first has 4.
use Rattle.std.specs.Prelude.{◌≡◌, ℕ, pos, true, false, List, [], ◌∷◌, Option, Some, None, refl}
use Rattle.sg_words.specs.declared.operators.AccOp.TheVariants as acc
use Rattle.sg_coord.specs.declared.coord.Coord.{Coord}
use Rattle.sg_layout.specs.declared.shape.Kind.TheVariants.{Dense}
use Rattle.sg_layout.specs.declared.shape.Shape.{Shape}
use Rattle.sg_layout.specs.Examples.{at1, node1, shape_with, line_of_four}
use Rattle.sg_flat.specs.declared.effects.Way.{Way}
use Rattle.sg_flat.specs.declared.effects.Way.TheVariants.{Own, Acc}
use Rattle.sg_flat.specs.declared.effects.Write.{Write}
use Rattle.sg_ir.specs.Runs.{CodeWrite}
use Rattle.sg_lower.specs.Lowered.{code_at, code_write, want_of}

abbrev pub four_and_eight : List Shape
four_and_eight = line_of_four ∷ shape_with 1 (node1 Dense (pos 8) (pos 0) (pos 0) ∷ []) ∷ []

-- ---- where code writes
pub own_inside : code_at true true (at1 6) ≡ Some (at1 6)
own_inside = refl

pub own_outside : code_at true false (at1 6) ≡ Some (at1 6)
own_outside = refl

pub contribution_inside : code_at false true (at1 6) ≡ Some (at1 6)
contribution_inside = refl

pub contribution_outside : code_at false false (at1 6) ≡ None
contribution_outside = refl

-- ---- what code tells
-- a write of an iteration into a layout, at a coordinate, and what stands for it
abbrev pub write : Way → ℕ → ℕ → Write
write way layout i = record { layout = layout; place = 2; stmt = 3; at = at1 i; way = way; value = 5 }

abbrev pub told : Way → ℕ → Option Coord → CodeWrite
told way layout at = record { layout = layout; field = 2; stmt = 3; at = at; way = way; value = 5 }

-- 6 is inside the second layout, and outside the first
pub adds_inside : code_write four_and_eight (write (Acc acc.Add) 1 6) ≡ told (Acc acc.Add) 1 (Some (at1 6))
adds_inside = refl

pub adds_outside : code_write four_and_eight (write (Acc acc.Add) 0 6) ≡ told (Acc acc.Add) 0 None
adds_outside = refl

pub adds_behind_the_last : code_write four_and_eight (write (Acc acc.Max) 1 8) ≡ told (Acc acc.Max) 1 None
adds_behind_the_last = refl

pub writes_outside : code_write four_and_eight (write Own 0 6) ≡ told Own 0 (Some (at1 6))
writes_outside = refl

-- a layout that isn't there has nothing inside
pub adds_to_no_layout : code_write four_and_eight (write (Acc acc.Min) 2 0) ≡ told (Acc acc.Min) 2 None
adds_to_no_layout = refl

-- ---- what a slice wants, outside too
pub wants_its_coordinate : want_of (write Own 1 8) ≡ record { layout = 1; stmt = 3; at = at1 8 }
wants_its_coordinate = refl
