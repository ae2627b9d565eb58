-- The storage words that a list of coordinates needs of a layout: those of a layout whose pools are as large as the need.
use Rattle.std.specs.Prelude.{ℕ, suc, ◌+◌, ◌*◌, List, [], ◌∷◌, length, Option, Some, None}
use Rattle.sg_coord.specs.declared.coord.Coord.{Coord}
use Rattle.sg_layout.specs.declared.shape.Kind.{Kind}
use Rattle.sg_layout.specs.declared.shape.Kind.TheVariants.{Dense, Bitmasked, Pointer, Hash, Dynamic}
use Rattle.sg_layout.specs.declared.shape.NodeShape.{NodeShape}
use Rattle.sg_layout.specs.declared.shape.Shape.{Shape}
use Rattle.sg_layout.specs.Axes.{count_of}
use Rattle.sg_layout.specs.Need.{need_of}
use Rattle.sg_layout.specs.StorageWords.{segments, last_node, copy_words}

-- the copies of a segment behind a node with this number: as many as its need
abbrev pub copies_used : Shape → List Coord → ℕ → Option NodeShape → ℕ
copies_used shape written number None = 0
copies_used shape written number (Some node) = need_of shape written number node

-- the words of segments, of which the first has so many copies and stands behind so many nodes
abbrev pub segments_used : Shape → List Coord → (copies before : ℕ) → List (List NodeShape) → ℕ
segments_used shape written copies before [] = 0
segments_used shape written copies before (segment ∷ others) =
    copies * copy_words (length shape.fields) segment
    + segments_used shape written (copies_used shape written (before + length segment) (last_node segment)) (before + length segment) others

-- the words of the chunks of a node with this number
abbrev pub chunks_by_need : Kind → Shape → List Coord → ℕ → NodeShape → ℕ
chunks_by_need Dynamic shape written number node = need_of shape written number node * (count_of node.chunk * length shape.fields + 1)
chunks_by_need Dense shape written number node = 0
chunks_by_need Bitmasked shape written number node = 0
chunks_by_need Pointer shape written number node = 0
chunks_by_need Hash shape written number node = 0

-- the words of the chunks of nodes, from this number on
abbrev pub chunks_used : Shape → List Coord → ℕ → List NodeShape → ℕ
chunks_used shape written number [] = 0
chunks_used shape written number (node ∷ later) = chunks_by_need node.kind shape written number node + chunks_used shape written (suc number) later

-- the words that these coordinates use
abbrev pub used_words : Shape → List Coord → ℕ
used_words shape written = segments_used shape written 1 0 (segments shape.nodes) + chunks_used shape written 1 shape.nodes
