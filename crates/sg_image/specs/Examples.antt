-- Worked images and counts.
use Rattle.std.specs.Prelude.{◌≡◌, refl, ◌+◌, ◌*◌, [], ◌∷◌, pos, codes}
use Rattle.std.specs.Fmt.{digits}
use Rattle.sg_words.specs.declared.operators.Ty.TheVariants as ty
use Rattle.sg_coord.specs.Coord.{plane_point}
use Rattle.sg_layout.specs.declared.shape.Kind.TheVariants.{Dense, Pointer}
use Rattle.sg_layout.specs.declared.shape.Shape.{Shape}
use Rattle.sg_flat.specs.declared.state.FlatLayout.{FlatLayout}
use Rattle.sg_image.specs.Pgm.{pgm_text}
use Rattle.sg_image.specs.Image.{image_text}
use Rattle.sg_image.specs.Counts.{stats_text}

-- 3 wide and 2 high
small : pgm_text 3 2 (λ row column. 10 * row + column) ≡ codes "P2\n3 2\n255\n0 1 2\n10 11 12\n"
unfolding digits
small = refl

-- 13 values of a row stand on two lines, 11 on one
two_lines : pgm_text 13 1 (λ row column. column) ≡ codes "P2\n13 1\n255\n0 1 2 3 4 5 6 7 8 9 10\n11 12\n"
unfolding digits
two_lines = refl

full_line : pgm_text 11 2 (λ row column. row) ≡ codes "P2\n11 2\n255\n0 0 0 0 0 0 0 0 0 0 0\n1 1 1 1 1 1 1 1 1 1 1\n"
unfolding digits
full_line = refl

-- pointer over dense nodes, 2 by 4 points in all
abbrev two_by_four : Shape
two_by_four = record {
  axes = 2;
  nodes = record { kind = Pointer; sizes = record { axis = 1; extent = pos 2 } ∷ []; cap = pos 2; chunk = pos 0 }
      ∷ record { kind = Dense; sizes = record { axis = 2; extent = pos 4 } ∷ []; cap = pos 0; chunk = pos 0 } ∷ [];
  fields = ty.I32 ∷ [];
}

-- the second row is active, with the values 0, 3, 0 and -1
abbrev second_row : FlatLayout
second_row = record {
  active = plane_point (pos 1) (pos 0) ∷ plane_point (pos 1) (pos 1) ∷ plane_point (pos 1) (pos 2) ∷ plane_point (pos 1) (pos 3) ∷ [];
  fields = ((5, 3) ∷ (7, 4294967295) ∷ []) ∷ [];
}

drawn : image_text two_by_four second_row 0 (pos 0) (pos 4) ≡ codes "P2\n4 2\n255\n0 0 0 0\n0 191 0 0\n"
unfolding digits
drawn = refl

counted : stats_text two_by_four second_row (codes "A") ≡ codes "stats A active 4 node 1 live 1\n"
unfolding digits
counted = refl
