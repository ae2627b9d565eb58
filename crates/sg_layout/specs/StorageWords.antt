-- Storage words: how many words of 8 bytes the containers of a layout take.
use Rattle.std.specs.Prelude.{◌≡◌, ℕ, ◌+◌, ◌-◌, ◌*◌, ◌^◌, Bool, true, false, List, [], ◌∷◌, length, take, sum_by, nat_le, slice_get, Option, Some, None, pos, refl}
use Rattle.std.specs.List.{position_or_len, range_with_len}
use Rattle.std.specs.Int.{div_ceil}
use Rattle.sg_words.specs.declared.operators.Ty.TheVariants as ty
use Rattle.sg_layout.specs.declared.shape.Kind.{Kind}
use Rattle.sg_layout.specs.declared.shape.Kind.TheVariants.{Dense, Bitmasked, Pointer, Hash, Dynamic}
use Rattle.sg_layout.specs.declared.shape.NodeShape.{NodeShape}
use Rattle.sg_layout.specs.declared.shape.Shape.{Shape}
use Rattle.sg_layout.specs.Limits.{spare_places}
pub use Rattle.sg_layout.specs.Limits.{most_words}
use Rattle.sg_layout.specs.Axes.{count_of, size_of, slots_of}
use Rattle.sg_layout.specs.Examples.{node1, node2, shape_with, blocks, odd_blocks, growing, grid}

-- a node whose slots have child containers ends a segment
abbrev pub ends_segment : Kind → Bool
ends_segment Pointer = true
ends_segment Hash = true
ends_segment Dense = false
ends_segment Bitmasked = false
ends_segment Dynamic = false

-- a node before nodes that are cut already: a segment of its own if it ends one, else the first of the first
-- segment
abbrev pub put_before : Bool → NodeShape → List (List NodeShape) → List (List NodeShape)
put_before true node cut = (node ∷ []) ∷ cut
put_before false node [] = (node ∷ []) ∷ []
put_before false node (segment ∷ others) = (node ∷ segment) ∷ others

-- the nodes cut into segments, after each pointer and each hash node; a last segment without nodes stands for one
-- cell
abbrev pub segments : List NodeShape → List (List NodeShape)
segments [] = [] ∷ []
segments (node ∷ later) = put_before (ends_segment node.kind) node (segments later)

-- the last node of a segment
abbrev pub last_node : List NodeShape → Option NodeShape
last_node nodes = slice_get nodes (length nodes - 1)

-- the copies of a segment, by the last node of the segment before: the child containers of its cap, and the spare ones
abbrev pub copies_after : Option NodeShape → ℕ
copies_after None = 0
copies_after (Some node) = count_of node.cap + spare_places

-- the words of a node's mask with this many bits, 64 to a word
abbrev pub mask_by : Kind → ℕ → ℕ
mask_by Bitmasked bits = div_ceil bits 64
mask_by Dense bits = 0
mask_by Pointer bits = 0
mask_by Hash bits = 0
mask_by Dynamic bits = 0

-- the words of the masks of nodes, where the nodes before them in the segment have this many slots: each bitmasked
-- node has a bit for each slot
abbrev pub mask_words : ℕ → List NodeShape → ℕ
mask_words before [] = 0
mask_words before (node ∷ later) =
    mask_by node.kind (before * size_of node.sizes) + mask_words (before * size_of node.sizes) later

-- the least of the powers 2^0 to 2^17 that is at least this number
abbrev pub power_for : ℕ → ℕ
power_for least = 2 ^ position_or_len (λ k. nat_le least (2 ^ k)) (range_with_len 0 18)

-- the words at the end of a segment with a last node of this kind
abbrev pub end_by : Kind → NodeShape → List NodeShape → ℕ → ℕ
-- a link for each slot
end_by Pointer last segment fields = slots_of segment
-- a table of keys and links, at most half full
end_by Hash last segment fields = 2 * power_for (2 * count_of last.cap)
-- a length and the head of a chain for each parent
end_by Dynamic last segment fields = 2 * slots_of (take (length segment - 1) segment)
-- a value for each cell and field
end_by Dense last segment fields = slots_of segment * fields
end_by Bitmasked last segment fields = slots_of segment * fields

-- the words at the end of a segment; one without nodes is one cell
abbrev pub end_words : Option NodeShape → List NodeShape → ℕ → ℕ
end_words None segment fields = slots_of segment * fields
end_words (Some last) segment fields = end_by last.kind last segment fields

-- the words of one copy of a segment
abbrev pub copy_words : ℕ → List NodeShape → ℕ
copy_words fields segment = mask_words 1 segment + end_words (last_node segment) segment fields

-- the words of segments, where the first of them has this many copies
abbrev pub segment_words : ℕ → ℕ → List (List NodeShape) → ℕ
segment_words fields copies [] = 0
segment_words fields copies (segment ∷ others) =
    copies * copy_words fields segment + segment_words fields (copies_after (last_node segment)) others

-- the words of the chunks of a node: as many as its cap, each with its values and the number of the next in its chain
abbrev pub chunks_by : Kind → NodeShape → ℕ → ℕ
chunks_by Dynamic node fields = count_of node.cap * (count_of node.chunk * fields + 1)
chunks_by Dense node fields = 0
chunks_by Bitmasked node fields = 0
chunks_by Pointer node fields = 0
chunks_by Hash node fields = 0

-- the storage words of a layout: of the copies of its segments, and of its chunks
abbrev pub words_of_shape : Shape → ℕ
words_of_shape shape =
    segment_words (length shape.fields) 1 (segments shape.nodes)
    + sum_by (λ (node : NodeShape). chunks_by node.kind node (length shape.fields)) shape.nodes

-- the storage words of all layouts
abbrev pub total_words : List Shape → ℕ
total_words shapes = sum_by words_of_shape shapes

-- ---- examples
pointer_blocks : words_of_shape blocks ≡ 80
pointer_blocks = refl

-- 3 links, and 19 copies of 5 cells
words_of_odd_blocks : words_of_shape odd_blocks ≡ 98
words_of_odd_blocks = refl

one_dynamic : words_of_shape growing ≡ 12
one_dynamic = refl

-- hash(i: 4, j: 4) cap 16; pointer(i: 2, j: 2) cap 64; bitmasked(i: 8, j: 8);
small_grid : words_of_shape grid ≡ 5461
small_grid = refl

-- hash(i: 32, j: 32) cap 256; pointer(i: 4, j: 4) cap 4096; bitmasked(i: 16, j: 16); with two fields
abbrev pub large_grid : Shape
large_grid = record {
  axes = 2;
  nodes =
      node2 Hash (pos 32) (pos 32) (pos 256) ∷ node2 Pointer (pos 4) (pos 4) (pos 4096)
      ∷ node2 Bitmasked (pos 16) (pos 16) (pos 0) ∷ [];
  fields = ty.I32 ∷ ty.U32 ∷ [];
}

two_fields : words_of_shape large_grid ≡ 2127700
two_fields = refl

-- pointer(i: 4) cap 2; alone: each child container is one cell
one_cell : words_of_shape (shape_with 1 (node1 Pointer (pos 4) (pos 2) (pos 0) ∷ [])) ≡ 23
one_cell = refl

-- bitmasked(i: 4); bitmasked(i: 32); has 1 and 2 words of masks and 128 cells
two_masks : words_of_shape (shape_with 1 (node1 Bitmasked (pos 4) (pos 0) (pos 0) ∷ node1 Bitmasked (pos 32) (pos 0) (pos 0) ∷ []))
    ≡ 131
two_masks = refl

-- a table for a cap of 3 has room for 8 keys
three_keys : words_of_shape (shape_with 1 (node1 Hash (pos 64) (pos 3) (pos 0) ∷ [])) ≡ 36
three_keys = refl

-- 64 bits are one word
full_mask : words_of_shape (shape_with 1 (node1 Bitmasked (pos 64) (pos 0) (pos 0) ∷ [])) ≡ 65
full_mask = refl

-- pointer(i: 2) cap 2; dense(i: 4); dynamic(i: 8) chunk 4 cap 3; has 2 links, 19 copies of 4 lengths and heads, and
-- 3 chunks of 4 values and a link
dynamic_below : words_of_shape
    (shape_with 1 (node1 Pointer (pos 2) (pos 2) (pos 0) ∷ node1 Dense (pos 4) (pos 0) (pos 0) ∷ node1 Dynamic (pos 8) (pos 3) (pos 4) ∷ []))
    ≡ 169
dynamic_below = refl

-- bitmasked(i: 5); bitmasked(i: 13); has 1 word for 5 bits, 2 words for 65, and 65 cells
odd_masks : words_of_shape (shape_with 1 (node1 Bitmasked (pos 5) (pos 0) (pos 0) ∷ node1 Bitmasked (pos 13) (pos 0) (pos 0) ∷ []))
    ≡ 68
odd_masks = refl

segments_of_grid : length (segments grid.nodes) ≡ 3
segments_of_grid = refl
