-- The walk of index words to their place: checks axis by axis, then one offset for each node.
use Rattle.std.specs.Prelude.{ℕ, suc, ◌+◌, ◌*◌, ◌/◌, ◌%◌, ◌^◌, ◌≤◌, List, [], ◌∷◌, Option, IsTrue}
use Rattle.std.specs.List.{list_all}
use Rattle.sg_layout.specs.Rules.{has_good_extents}
use Rattle.sg_layout.specs.declared.shape.NodeShape.{NodeShape}
use Rattle.sg_layout.specs.declared.shape.Shape.{Shape}
use Rattle.sg_layout.specs.Axes.{extent_in, extent_over}
use Rattle.sg_ir.specs.Runs.{Place, check, down}

-- the place after the checks of words against extents
abbrev pub checks : List ℕ → List ℕ → Option Place → Option Place
checks [] words place = place
checks (extent ∷ extents) [] place = place
checks (extent ∷ extents) (word ∷ words) place = checks extents words (check extent word place)

-- the part of an index word on an axis at a node
abbrev pub digit : NodeShape → List NodeShape → ℕ → ℕ → ℕ
digit node later axis word = word / extent_over later axis % extent_in node.sizes axis

-- an offset that goes on by further axes, from the given one on
abbrev pub offset_from : NodeShape → List NodeShape → ℕ → List ℕ → ℕ → ℕ
offset_from node later axis [] high = high
offset_from node later axis (word ∷ words) high =
    offset_from node later (suc axis) words ((high * extent_in node.sizes axis + digit node later axis word) % 2 ^ 32)

-- the offset of index words at a node
abbrev pub node_offset : NodeShape → List NodeShape → List ℕ → ℕ
node_offset node later [] = 0
node_offset node later (word ∷ words) = offset_from node later 2 words (digit node later 1 word)

-- the place after the steps down these nodes, of which the first has this number
abbrev pub led : List Shape → ℕ → List NodeShape → List ℕ → Option Place → Option Place
led shapes number [] words place = place
led shapes number (node ∷ later) words place = led shapes (suc number) later words (down shapes number (node_offset node later words) place)

-- extents of nodes are at least 1, and no product of those of an axis is past the greatest
pub record AreWalkable (nodes : List NodeShape) : Type 0 where
  pub good : IsTrue (list_all has_good_extents nodes)
  pub small : (axis : ℕ) → 1 ≤ axis → axis ≤ 3 → extent_over nodes axis ≤ 2 ^ 15
