-- Cells that follow one another along the last axis.
use Rattle.std.specs.Prelude.{◌≡◌, refl, ℕ, ◌+◌, ◌-◌, ◌%◌, ◌≤◌, nat_le, if◌then◌else◌, ℤ, pos, ◌+ℤ◌, List, [], ◌∷◌, Some}
use Rattle.sg_coord.specs.declared.coord.Coord.{Coord}
use Rattle.sg_coord.specs.Coord.{count_of, is_inside, space_point}
use Rattle.sg_layout.specs.declared.shape.NodeShape.{NodeShape}
use Rattle.sg_layout.specs.declared.shape.Shape.{Shape}
use Rattle.sg_layout.specs.Axes.{extent_in, bounds_of_shape}
use Rattle.sg_layout.specs.Closure.{is_dense}
use Rattle.sg_layout.specs.Examples.{blocks, masked_blocks, at1}
use Rattle.sg_store.specs.StoreWords.{StoreWords}
use Rattle.sg_store.specs.Walks.{cell_in}

-- the coordinate that is so far along the last axis
abbrev pub along : ℕ → Coord → Coord
along k at =
    if nat_le 3 at.n then record { n = at.n; a = at.a; b = at.b; c = at.c +ℤ pos k }
    else (if nat_le 2 at.n then record { n = at.n; a = at.a; b = at.b +ℤ pos k; c = at.c }
    else record { n = at.n; a = at.a +ℤ pos k; b = at.b; c = at.c })

-- the part on the last axis
abbrev pub last_part : Coord → ℤ
last_part at = if nat_le 3 at.n then at.c else (if nat_le 2 at.n then at.b else at.a)

-- how many coordinates follow one along the last axis up to the next multiple of a node's extent: they have the same slot of the node before
abbrev pub left_under : NodeShape → Coord → ℕ
left_under node at = extent_in node.sizes at.n - 1 - count_of (last_part at) % extent_in node.sizes at.n

-- the same of the last of some nodes, if it is dense; else 0
abbrev pub left_in : List NodeShape → Coord → ℕ
left_in [] at = 0
left_in (node ∷ []) at = if is_dense node.kind then left_under node at else 0
left_in (node ∷ (next ∷ later)) at = left_in (next ∷ later) at

-- the same of a shape, for a coordinate inside; else 0
abbrev pub cells_left : Shape → Coord → ℕ
cells_left shape at = if is_inside (bounds_of_shape shape) at then left_in shape.nodes at else 0

two_follow_nine : cells_left blocks (at1 9) ≡ 2
two_follow_nine = refl

none_follows_eleven : cells_left blocks (at1 11) ≡ 0
none_follows_eleven = refl

none_follows_outside : cells_left blocks (at1 17) ≡ 0
none_follows_outside = refl

none_follows_where_bits_tell : cells_left masked_blocks (at1 9) ≡ 0
none_follows_where_bits_tell = refl

along_the_third : along 2 (space_point (pos 1) (pos 2) (pos 3)) ≡ space_point (pos 1) (pos 2) (pos 5)
along_the_third = refl

-- the coordinates up to so far along the last axis have the cells that follow, if this one has a cell
abbrev pub CellsFollow : StoreWords → Coord → ℕ → Type 0
CellsFollow store at count = (k cell : ℕ) → 1 ≤ k → k ≤ count → cell_in store at ≡ Some cell → cell_in store (along k at) ≡ Some (cell + k)
