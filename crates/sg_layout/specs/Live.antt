-- Which slots of a node are live for a list of coordinates.
use Rattle.std.specs.Prelude.{ℕ, ◌-◌, Bool, true, false, ◌&&◌, List, [], ◌∷◌, ◌==◌, nat_le, Option, Some, None, slice_get}
use Rattle.std.specs.List.{list_any}
use Rattle.std.specs.Str.{bytes_eq}
use Rattle.sg_coord.specs.declared.coord.Coord.{Coord}
use Rattle.sg_layout.specs.declared.shape.Kind.{Kind}
use Rattle.sg_layout.specs.declared.shape.Kind.TheVariants.{Dense, Bitmasked, Pointer, Hash, Dynamic}
use Rattle.sg_layout.specs.declared.shape.NodeShape.{NodeShape}
use Rattle.sg_layout.specs.declared.shape.Shape.{Shape}
use Rattle.sg_layout.specs.Path.{path}

-- the slot is the reached one, or differs from it only by a smaller last offset
abbrev pub is_at_or_below : List ℕ → List ℕ → Bool
is_at_or_below [] [] = true
is_at_or_below [] (y ∷ ys) = false
is_at_or_below (x ∷ xs) [] = false
is_at_or_below (x ∷ []) (y ∷ []) = nat_le y x
is_at_or_below (x ∷ xs) (y ∷ ys) = (x == y) && is_at_or_below xs ys

-- a path that was reached makes this slot live: itself, and at a dynamic node those below it under the same parent
-- too
abbrev pub makes_live : Kind → List ℕ → List ℕ → Bool
makes_live Dynamic reached slot = is_at_or_below reached slot
makes_live Dense reached slot = bytes_eq reached slot
makes_live Bitmasked reached slot = bytes_eq reached slot
makes_live Pointer reached slot = bytes_eq reached slot
makes_live Hash reached slot = bytes_eq reached slot

-- the kind of a node that may be there
abbrev pub kind_or : Option NodeShape → Kind
kind_or None = Dense
kind_or (Some node) = node.kind

-- the kind of a node, numbered from 1; Dense past the last
abbrev pub kind_at : List NodeShape → ℕ → Kind
kind_at nodes number = kind_or (slice_get nodes (number - 1))

-- the slot of a node is live for a list of coordinates, which are meant to be inside: the path of some coordinate
-- makes it so
abbrev pub is_live : Shape → List Coord → ℕ → List ℕ → Bool
is_live shape written number slot =
    list_any (λ at. makes_live (kind_at shape.nodes number) (path shape at number) slot) written
