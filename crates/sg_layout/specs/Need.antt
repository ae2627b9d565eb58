-- What a node must have room for, and which node is too full first.
use Rattle.std.specs.Prelude.{ℕ, ◌+◌, ◌-◌, ◌/◌, suc, max, List, [], ◌∷◌, map, filter, length, sum_by, if◌then◌else◌, nat_lt, slice_index, Option, Some, None}
use Rattle.std.specs.List.{list_any, fold}
use Rattle.std.specs.Str.{bytes_eq}
use Rattle.sg_coord.specs.declared.coord.Coord.{Coord}
use Rattle.sg_layout.specs.declared.shape.Kind.{Kind}
use Rattle.sg_layout.specs.declared.shape.Kind.TheVariants.{Dense, Bitmasked, Pointer, Hash, Dynamic}
use Rattle.sg_layout.specs.declared.shape.NodeShape.{NodeShape}
use Rattle.sg_layout.specs.declared.shape.Shape.{Shape}
use Rattle.sg_layout.specs.Axes.{count_of}
use Rattle.sg_layout.specs.Path.{offsets, path}

-- each member of a list of slots, once
abbrev pub distinct : List (List ℕ) → List (List ℕ)
distinct [] = []
distinct (slot ∷ slots) = if list_any (bytes_eq slot) slots then distinct slots else slot ∷ distinct slots

-- the slots of a node that the coordinates' paths go through, each once
abbrev pub reached_slots : Shape → List Coord → ℕ → List (List ℕ)
reached_slots shape written number = distinct (map (λ at. path shape at number) written)

-- the greatest offset at a node, of coordinates
abbrev pub greatest_offset : Shape → ℕ → List Coord → ℕ
greatest_offset shape number under = fold max 0 (map (λ at. slice_index (offsets shape.nodes at) (number - 1)) under)

-- the coordinates whose path goes through this slot of a node
abbrev pub under_slot : Shape → List Coord → ℕ → List ℕ → List Coord
under_slot shape written number slot = filter (λ at. bytes_eq (path shape at number) slot) written

-- the chunks under one parent of a dynamic node: its greatest live index plus one, divided by the chunk and rounded
-- up
abbrev pub chunks_under : Shape → List Coord → ℕ → ℕ → List ℕ → ℕ
chunks_under shape written number chunk parent =
    (greatest_offset shape number (under_slot shape written (number - 1) parent) + chunk) / chunk

-- the need of a node of this kind and number for a list of coordinates: what it must have room for
abbrev pub need_by : Kind → Shape → List Coord → ℕ → ℕ → ℕ
need_by Dynamic shape written number chunk =
    sum_by (chunks_under shape written number chunk) (reached_slots shape written (number - 1))
need_by Pointer shape written number chunk = length (reached_slots shape written number)
need_by Hash shape written number chunk = length (reached_slots shape written number)
need_by Dense shape written number chunk = 0
need_by Bitmasked shape written number chunk = 0

-- the need of a node with this number
abbrev pub need_of : Shape → List Coord → ℕ → NodeShape → ℕ
need_of shape written number node = need_by node.kind shape written number (count_of node.chunk)

-- a node whose need passes its cap, as its number and that cap
pub record FullNode : Type 0 where
  pub node : ℕ
  pub cap : ℕ

-- the first node, from the given number on, whose need passes its cap
abbrev pub first_full_from : Shape → List Coord → ℕ → List NodeShape → Option FullNode
first_full_from shape written number [] = None
first_full_from shape written number (node ∷ later) =
    if nat_lt (count_of node.cap) (need_of shape written number node)
    then Some (record { node = number; cap = count_of node.cap })
    else first_full_from shape written (suc number) later

-- the first node from the root whose need passes its cap
abbrev pub first_full : Shape → List Coord → Option FullNode
first_full shape written = first_full_from shape written 1 shape.nodes
