-- Worked examples of paths and slots, on a layout of three axes and four nodes.
use Rattle.std.specs.Prelude.{◌≡◌, ℕ, [], ◌∷◌, length, Ok, refl, pos}
use Rattle.sg_coord.specs.declared.coord.Coord.{Coord}
use Rattle.sg_words.specs.declared.operators.Ty.TheVariants as ty
use Rattle.sg_layout.specs.declared.shape.Kind.TheVariants.{Dense, Bitmasked, Pointer, Hash}
use Rattle.sg_layout.specs.declared.shape.NodeShape.{NodeShape}
use Rattle.sg_layout.specs.declared.shape.Shape.{Shape}
use Rattle.sg_layout.specs.Axes.{slots_of, bounds_of_shape}
use Rattle.sg_layout.specs.Path.{offsets, path}
use Rattle.sg_layout.specs.Rules.{checked_shape}
use Rattle.sg_layout.specs.Slots.{slot_number, slot_at, slots, coordinate_of}
use Rattle.sg_layout.specs.Examples.{blocks}

abbrev pub at3 : ℕ → ℕ → ℕ → Coord
at3 i j k = record { n = 3; a = pos i; b = pos j; c = pos k }

-- hash(i: 4, k: 2) cap 4;
abbrev pub root : NodeShape
root = record {
  kind = Hash;
  sizes = record { axis = 1; extent = pos 4 } ∷ record { axis = 3; extent = pos 2 } ∷ [];
  cap = pos 4;
  chunk = pos 0;
}

-- pointer(j: 8) cap 4;
abbrev pub columns : NodeShape
columns = record { kind = Pointer; sizes = record { axis = 2; extent = pos 8 } ∷ []; cap = pos 4; chunk = pos 0 }

-- dense(k: 4, j: 2, i: 2);
abbrev pub boxes : NodeShape
boxes = record {
  kind = Dense;
  sizes =
      record { axis = 3; extent = pos 4 } ∷ record { axis = 2; extent = pos 2 } ∷ record { axis = 1; extent = pos 2 } ∷ [];
  cap = pos 0;
  chunk = pos 0;
}

-- bitmasked(i: 4, k: 2);
abbrev pub cells : NodeShape
cells = record {
  kind = Bitmasked;
  sizes = record { axis = 1; extent = pos 4 } ∷ record { axis = 3; extent = pos 2 } ∷ [];
  cap = pos 0;
  chunk = pos 0;
}

abbrev pub deep : Shape
deep = record { axes = 3; nodes = root ∷ columns ∷ boxes ∷ cells ∷ []; fields = ty.I32 ∷ [] }

deep_is_well_formed : checked_shape deep ≡ Ok deep
deep_is_well_formed = refl

extents_of_deep : bounds_of_shape deep ≡ record { n = 3; a = 32; b = 16; c = 16 }
extents_of_deep = refl

-- 19 is 2 * 8 + 0 * 4 + 3, 13 is 6 * 2 + 1, and 10 is 1 * 8 + 1 * 2 + 0; so the offsets are 2 * 2 + 1, 6,
-- (0 * 2 + 1) * 4 + 1 and 3 * 2 + 0
path_of_a_point : offsets deep.nodes (at3 19 13 10) ≡ 5 ∷ 6 ∷ 5 ∷ 6 ∷ []
path_of_a_point = refl

-- 8 is 1 * 8, 2 is 1 * 2, and 5 is 0 * 8 + 2 * 2 + 1
path_of_another : offsets deep.nodes (at3 8 2 5) ≡ 2 ∷ 1 ∷ 2 ∷ 1 ∷ []
path_of_another = refl

path_through_two : path deep (at3 19 13 10) 2 ≡ 5 ∷ 6 ∷ []
path_through_two = refl

path_of_the_last : offsets deep.nodes (at3 31 15 15) ≡ 7 ∷ 7 ∷ 15 ∷ 7 ∷ []
path_of_the_last = refl

back_from_a_path : coordinate_of deep (5 ∷ 6 ∷ 5 ∷ 6 ∷ []) ≡ at3 19 13 10
back_from_a_path = refl

back_from_another : coordinate_of deep (2 ∷ 1 ∷ 2 ∷ 1 ∷ []) ≡ at3 8 2 5
back_from_another = refl

as_many_slots_as_points : slots_of deep.nodes ≡ 8192
as_many_slots_as_points = refl

-- ((5 * 8 + 6) * 16 + 5) * 8 + 6
number_of_a_slot : slot_number deep.nodes (5 ∷ 6 ∷ 5 ∷ 6 ∷ []) ≡ 5934
number_of_a_slot = refl

slot_of_a_number : slot_at deep.nodes 5934 ≡ 5 ∷ 6 ∷ 5 ∷ 6 ∷ []
slot_of_a_number = refl

sixteen_slots : length (slots blocks.nodes) ≡ 16
sixteen_slots = refl
