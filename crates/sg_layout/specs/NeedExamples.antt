-- Worked examples of closures and needs, for each kind of node.
use Rattle.std.specs.Prelude.{◌≡◌, false, [], ◌∷◌, map, Some, None, refl, pos}
use Rattle.sg_layout.specs.declared.shape.Kind.TheVariants.{Dense, Bitmasked, Pointer, Hash, Dynamic}
use Rattle.sg_layout.specs.declared.shape.NodeShape.{NodeShape}
use Rattle.sg_layout.specs.declared.shape.Shape.{Shape}
use Rattle.sg_layout.specs.Live.{is_live}
use Rattle.sg_layout.specs.Closure.{closure, last_sparse}
use Rattle.sg_layout.specs.Need.{reached_slots, need_of, first_full}
use Rattle.sg_layout.specs.Examples.{node1, node2, shape_with, at1, at2, blocks, masked_blocks}

-- hash(i: 64) cap 3;
abbrev pub keyed : Shape
keyed = shape_with 1 (node1 Hash (pos 64) (pos 3) (pos 0) ∷ [])

-- a chunk has 4 elements, and there are 3 of them
abbrev pub row_node : NodeShape
row_node = node1 Dynamic (pos 8) (pos 3) (pos 4)

-- pointer(i: 2) cap 2; dynamic(i: 8) chunk 4 cap 3;
abbrev pub rows : Shape
rows = shape_with 1 (node1 Pointer (pos 2) (pos 2) (pos 0) ∷ row_node ∷ [])

-- bitmasked(i: 4); dense(i: 2);
abbrev pub blocks_of_two : Shape
blocks_of_two = shape_with 1 (node1 Bitmasked (pos 4) (pos 0) (pos 0) ∷ node1 Dense (pos 2) (pos 0) (pos 0) ∷ [])

-- pointer(i: 2) cap 1; pointer(i: 2) cap 1; dense(i: 2);
abbrev pub inner_blocks : NodeShape
inner_blocks = node1 Pointer (pos 2) (pos 1) (pos 0)

abbrev pub nested : Shape
nested = shape_with 1 (inner_blocks ∷ inner_blocks ∷ node1 Dense (pos 2) (pos 0) (pos 0) ∷ [])

-- pointer(i: 2, j: 2) cap 2; dense(i: 2, j: 2);
abbrev pub squares : Shape
squares = shape_with 2 (node2 Pointer (pos 2) (pos 2) (pos 2) ∷ node2 Dense (pos 2) (pos 2) (pos 0) ∷ [])

-- dense(j: 2); dynamic(i: 4) chunk 2 cap 3; so that each j has a list of its own
abbrev pub lists : Shape
lists =
    shape_with 2
    (record { kind = Dense; sizes = record { axis = 2; extent = pos 2 } ∷ []; cap = pos 0; chunk = pos 0 }
    ∷ node1 Dynamic (pos 4) (pos 3) (pos 2) ∷ [])

one_key : closure keyed (at1 24 ∷ []) ≡ at1 24 ∷ []
one_key = refl

pair_of_five : closure blocks_of_two (at1 5 ∷ at1 0 ∷ []) ≡ map at1 (0 ∷ 1 ∷ 4 ∷ 5 ∷ [])
pair_of_five = refl

rows_fill_up : closure rows (at1 6 ∷ at1 9 ∷ []) ≡ map at1 (0 ∷ 1 ∷ 2 ∷ 3 ∷ 4 ∷ 5 ∷ 6 ∷ 8 ∷ 9 ∷ [])
rows_fill_up = refl

square_of_a_point : closure squares (at2 2 1 ∷ []) ≡ at2 2 0 ∷ at2 2 1 ∷ at2 3 0 ∷ at2 3 1 ∷ []
square_of_a_point = refl

one_list_grows : closure lists (at2 2 1 ∷ []) ≡ at2 0 1 ∷ at2 1 1 ∷ at2 2 1 ∷ []
one_list_grows = refl

other_list_is_empty : is_live lists (at2 2 1 ∷ []) 2 (0 ∷ 0 ∷ []) ≡ false
other_list_is_empty = refl

keys_once : reached_slots keyed (at1 24 ∷ at1 0 ∷ at1 24 ∷ []) 1 ≡ (0 ∷ []) ∷ (24 ∷ []) ∷ []
keys_once = refl

need_of_keys : need_of keyed (at1 24 ∷ at1 0 ∷ at1 24 ∷ []) 1 (node1 Hash (pos 64) (pos 3) (pos 0)) ≡ 2
need_of_keys = refl

-- seven elements in the first row and two in the second
need_of_rows : need_of rows (at1 1 ∷ at1 6 ∷ at1 9 ∷ []) 2 row_node ≡ 3
need_of_rows = refl

-- four elements fill one chunk
need_of_one_chunk : need_of rows (at1 3 ∷ []) 2 row_node ≡ 1
need_of_one_chunk = refl

-- three elements in the one list and one in the other
need_of_lists : need_of lists (at2 2 1 ∷ at2 0 0 ∷ []) 2 (node1 Dynamic (pos 4) (pos 3) (pos 2)) ≡ 3
need_of_lists = refl

-- slots under two parents are two
need_of_nested : need_of nested (at1 0 ∷ at1 4 ∷ at1 5 ∷ []) 2 inner_blocks ≡ 2
need_of_nested = refl

-- both pointer nodes are too full
root_is_full_first : first_full nested (at1 0 ∷ at1 4 ∷ []) ≡ Some (record { node = 1; cap = 1 })
root_is_full_first = refl

masks_need_nothing : need_of blocks_of_two (at1 5 ∷ at1 0 ∷ []) 1 (node1 Bitmasked (pos 4) (pos 0) (pos 0)) ≡ 0
masks_need_nothing = refl

cells_need_nothing : need_of blocks (at1 5 ∷ at1 0 ∷ []) 2 (node1 Dense (pos 4) (pos 0) (pos 0)) ≡ 0
cells_need_nothing = refl

three_chunks_fit : first_full rows (at1 6 ∷ at1 9 ∷ []) ≡ None
three_chunks_fit = refl

fourth_chunk_is_too_many : first_full rows (at1 6 ∷ at1 12 ∷ []) ≡ Some (record { node = 2; cap = 3 })
fourth_chunk_is_too_many = refl

fourth_key_is_too_many : first_full keyed (map at1 (0 ∷ 8 ∷ 16 ∷ 24 ∷ [])) ≡ Some (record { node = 1; cap = 3 })
fourth_key_is_too_many = refl

blocks_decide : last_sparse blocks.nodes ≡ 1
blocks_decide = refl

masks_decide : last_sparse masked_blocks.nodes ≡ 2
masks_decide = refl
