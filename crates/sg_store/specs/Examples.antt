-- Worked equations: a store of pointer(i: 4) cap 2; dense(i: 4); and one of pointer(i: 4) cap 2; bitmasked(i: 4);
use Rattle.std.specs.Prelude.{◌≡◌, true, false, [], ◌∷◌, Some, None, pos, replicate, refl}
use Rattle.sg_layout.specs.declared.shape.Kind.TheVariants.{Dense, Bitmasked, Pointer, Hash}
use Rattle.sg_layout.specs.declared.shape.Shape.{Shape}
use Rattle.sg_layout.specs.Examples.{at1, blocks, masked_blocks, growing, node1, shape_with}
use Rattle.sg_links.specs.Lists.{Lists}
use Rattle.sg_pool.specs.Numbers.{PoolNumbers}
use Rattle.sg_store.specs.declared.node.NodeWords.{NodeWords}
use Rattle.sg_store.specs.declared.spot.Spot.{Spot}
use Rattle.sg_store.specs.StoreWords.{StoreWords, word_in}
use Rattle.sg_store.specs.Slots.{links_by_slot}
use Rattle.sg_store.specs.Walks.{is_on, cell_in, place_in}
use Rattle.sg_store.specs.WellFormed.{cell_count}
use Rattle.sg_store.specs.Spots.{width_after, place_of_spot, root_offsets}

-- a pool of 19 numbers, of which the first two are live
abbrev pub two_live : PoolNumbers
two_live = record { live = true ∷ (true ∷ replicate 17 false); free = []; mark = 2 }

abbrev pub no_numbers : PoolNumbers
no_numbers = record { live = []; free = []; mark = 0 }

abbrev pub no_chains : Lists
no_chains = record { numbers = 0; lists = [] }

-- block 0 has container 1, and block 2 has container 0
abbrev pub two_links : NodeWords
two_links = record { keys = []; links = 2 ∷ (0 ∷ (1 ∷ (0 ∷ []))); masks = []; lengths = []; chains = no_chains; pool = two_live }

abbrev pub no_words : NodeWords
no_words = record { keys = []; links = []; masks = []; lengths = []; chains = no_chains; pool = no_numbers }

abbrev pub block_store : StoreWords
block_store = record { shape = blocks; nodes = two_links ∷ (no_words ∷ []); fields = (0 ∷ (7 ∷ (0 ∷ (0 ∷ (5 ∷ []))))) ∷ [] }

-- coordinate 9 is the second cell of block 2, whose container is 0
nine_has_a_cell : cell_in block_store (at1 9) ≡ Some 1
nine_has_a_cell = refl

zero_has_a_cell : cell_in block_store (at1 0) ≡ Some 4
zero_has_a_cell = refl

five_has_none : cell_in block_store (at1 5) ≡ None
five_has_none = refl

outside_has_none : cell_in block_store (at1 16) ≡ None
outside_has_none = refl

nine_has_seven : word_in block_store 0 1 ≡ 7
nine_has_seven = refl

-- 19 containers of 4 cells
block_cells : cell_count blocks ≡ 76
block_cells = refl

-- the links tell which blocks are on
block_two_is_on : is_on blocks.nodes block_store.nodes 0 (2 ∷ []) ≡ true
block_two_is_on = refl

block_one_is_off : is_on blocks.nodes block_store.nodes 0 (1 ∷ []) ≡ false
block_one_is_off = refl

-- bits 0 to 3 are those of container 0, which is block 2, and bits 4 to 7 those of container 1
abbrev pub masked_store : StoreWords
masked_store = record {
  shape = masked_blocks;
  nodes = two_links ∷ (record { keys = []; links = []; masks = 34 ∷ []; lengths = []; chains = no_chains; pool = no_numbers } ∷ []);
  fields = [];
}

one_and_nine_are_marked : cell_in masked_store (at1 1) ≡ Some 5
one_and_nine_are_marked = refl

nine_is_marked : cell_in masked_store (at1 9) ≡ Some 1
nine_is_marked = refl

ten_is_not_marked : cell_in masked_store (at1 10) ≡ None
ten_is_not_marked = refl

-- its bit has a number all the same, since its container is live
ten_has_a_bit : place_in masked_store 2 (at1 10) ≡ Some 2
ten_has_a_bit = refl

-- and coordinate 5 has none
five_has_no_bit : place_in masked_store 2 (at1 5) ≡ None
five_has_no_bit = refl

-- a link stands under a bit that isn't set: it is on, and has no cell
abbrev pub linked_below : StoreWords
linked_below = record {
  shape = shape_with 1 (node1 Bitmasked (pos 2) (pos 0) (pos 0) ∷ (node1 Pointer (pos 4) (pos 2) (pos 0) ∷ []));
  nodes = record { keys = []; links = []; masks = 1 ∷ []; lengths = []; chains = no_chains; pool = no_numbers }
      ∷ (record { keys = []; links = 0 ∷ (0 ∷ (0 ∷ (0 ∷ (0 ∷ (1 ∷ (0 ∷ (0 ∷ []))))))); masks = []; lengths = []; chains = no_chains; pool = two_live } ∷ []);
  fields = [];
}

link_is_on : is_on linked_below.shape.nodes linked_below.nodes 0 (1 ∷ (1 ∷ [])) ≡ true
link_is_on = refl

link_has_no_cell : cell_in linked_below (at1 5) ≡ None
link_has_no_cell = refl

-- the spots of coordinate 9: slot 2 of the root, then container 0, then its cell 1
width_of_blocks : width_after blocks.nodes 2 ≡ 4
width_of_blocks = refl

abbrev pub nine_spot : Spot
nine_spot = record { node = 2; part = 0; slot = 1 }

spot_is_cell : place_of_spot blocks.nodes nine_spot ≡ 1
spot_is_cell = refl

-- dynamic(i: 8) chunk 4 cap 2; with length 6: the first chunk of its chain is 1, the second 0
abbrev pub grown_words : NodeWords
grown_words = record {
  keys = [];
  links = [];
  masks = [];
  lengths = 6 ∷ [];
  chains = record { numbers = 2; lists = (1 ∷ (0 ∷ [])) ∷ [] };
  pool = record { live = true ∷ (true ∷ []); free = []; mark = 2 };
}

abbrev pub grown_store : StoreWords
grown_store = record { shape = growing; nodes = grown_words ∷ []; fields = [] }

-- coordinate 2 is in chunk 1, and 5 the second cell of chunk 0
two_is_in_the_first_chunk : cell_in grown_store (at1 2) ≡ Some 6
two_is_in_the_first_chunk = refl

five_is_in_the_second_chunk : cell_in grown_store (at1 5) ≡ Some 1
five_is_in_the_second_chunk = refl

-- the last chunk has room for coordinate 6, which isn't below the length
six_has_no_cell : cell_in grown_store (at1 6) ≡ None
six_has_no_cell = refl

-- at a dynamic node a coordinate's word is the length of its parent, which is the root here
five_has_the_first_length : place_in grown_store 1 (at1 5) ≡ Some 0
five_has_the_first_length = refl

growing_cells : cell_count growing ≡ 8
growing_cells = refl

-- hash(i: 4) cap 2; dense(i: 4); with a table of 4 places: block 2 has container 1, and block 3, which comes first, container 0
abbrev pub hashed : Shape
hashed = shape_with 1 (node1 Hash (pos 4) (pos 2) (pos 0) ∷ (node1 Dense (pos 4) (pos 0) (pos 0) ∷ []))

abbrev pub hash_words : NodeWords
hash_words = record { keys = 0 ∷ (0 ∷ (3 ∷ (4 ∷ []))); links = 0 ∷ (0 ∷ (2 ∷ (1 ∷ []))); masks = []; lengths = []; chains = no_chains; pool = two_live }

abbrev pub hash_store : StoreWords
hash_store = record { shape = hashed; nodes = hash_words ∷ (no_words ∷ []); fields = [] }

nine_has_a_key : cell_in hash_store (at1 9) ≡ Some 5
nine_has_a_key = refl

block_three_leads_to_zero : cell_in hash_store (at1 13) ≡ Some 1
block_three_leads_to_zero = refl

five_has_no_key : cell_in hash_store (at1 5) ≡ None
five_has_no_key = refl

-- the root leads on over the keys, ascending
over_both_keys : root_offsets hash_store ≡ 2 ∷ (3 ∷ [])
over_both_keys = refl

-- the key of coordinate 9 is the number of its block
nine_is_in_block_two : place_in hash_store 1 (at1 9) ≡ Some 2
nine_is_in_block_two = refl

-- the link words of its slots
by_its_slots : links_by_slot hash_words.keys hash_words.links 4 ≡ 0 ∷ (0 ∷ (2 ∷ (1 ∷ [])))
by_its_slots = refl

hashed_cells : cell_count hashed ≡ 76
hashed_cells = refl
