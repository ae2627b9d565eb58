-- Conversion and advice, worked.
use Rattle.std.specs.Prelude.{◌≡◌, ℕ, List, [], ◌∷◌, pos, Some, None, refl}
use Rattle.sg_words.specs.declared.operators.Ty.TheVariants.{I32}
use Rattle.sg_coord.specs.declared.coord.Coord.{Coord}
use Rattle.sg_layout.specs.declared.shape.Kind.TheVariants.{Pointer, Dense, Dynamic}
use Rattle.sg_layout.specs.declared.shape.Shape.{Shape}
use Rattle.sg_layout.specs.Examples.{node1}
use Rattle.sg_convert.specs.Used.{used_words}
use Rattle.sg_convert.specs.Advising.{counts_from, best_of, words_for}

abbrev pub line_point : ℕ → Coord
line_point a = record { n = 1; a = pos a; b = pos 0; c = pos 0 }

abbrev pub blocks_of : ℕ → Shape
blocks_of cap = record { axes = 1; nodes = node1 Pointer (pos 16) (pos cap) (pos 0) ∷ node1 Dense (pos 4) (pos 0) (pos 0) ∷ []; fields = I32 ∷ [] }

abbrev pub flat_line : Shape
flat_line = record { axes = 1; nodes = node1 Dense (pos 64) (pos 0) (pos 0) ∷ []; fields = I32 ∷ [] }

abbrev pub two_kept : List Coord
two_kept = line_point 5 ∷ line_point 40 ∷ []

used_of_two : used_words (blocks_of 4) two_kept ≡ 24
used_of_two = refl

used_of_none : used_words (blocks_of 4) [] ≡ 16
used_of_none = refl

used_of_all_dense : used_words flat_line two_kept ≡ 64
used_of_all_dense = refl

too_few : words_for two_kept (blocks_of 1) ≡ None
too_few = refl

used_of_list : used_words (record { axes = 1; nodes = node1 Dynamic (pos 8) (pos 2) (pos 4) ∷ []; fields = I32 ∷ [] }) (line_point 5 ∷ []) ≡ 12
used_of_list = refl

counts_of_three : counts_from flat_line two_kept 0 (flat_line ∷ blocks_of 4 ∷ blocks_of 1 ∷ [])
    ≡ record { layout = 0; words = Some 64 } ∷ record { layout = 1; words = Some 24 } ∷ record { layout = 2; words = None } ∷ []
counts_of_three = refl

best_is_first_least : best_of None (counts_from flat_line [] 0 (flat_line ∷ blocks_of 4 ∷ blocks_of 1 ∷ [])) ≡ Some (1, 16)
best_is_first_least = refl
