-- Worked equations: where containers and chunks stand.
use Rattle.std.specs.Prelude.{◌≡◌, ℕ, [], ◌∷◌, Some, None, pos, refl}
use Rattle.sg_layout.specs.declared.shape.Kind.TheVariants.{Dense, Pointer, Hash, Dynamic}
use Rattle.sg_layout.specs.declared.shape.NodeShape.{NodeShape}
use Rattle.sg_layout.specs.Examples.{node1}
use Rattle.sg_store.specs.declared.links.LinkAt.{LinkAt}
use Rattle.sg_store.specs.Links.{held_at, full_chain, node_above, copy_slots, link_for}
use Rattle.sg_store.specs.Examples.{two_links, hash_words, grown_words}

-- hash(i: 4) cap 2; and below it pointer(i: 4) cap 3;
abbrev pub keyed : NodeShape
keyed = node1 Hash (pos 4) (pos 2) (pos 0)

abbrev pub four : NodeShape
four = node1 Pointer (pos 4) (pos 3) (pos 0)

abbrev pub two : NodeShape
two = node1 Dense (pos 2) (pos 0) (pos 0)

abbrev pub row_of_eight : NodeShape
row_of_eight = node1 Dynamic (pos 8) (pos 5) (pos 3)

-- dynamic(i: 8) chunk 4 cap 2;
abbrev pub growing_node : NodeShape
growing_node = node1 Dynamic (pos 8) (pos 2) (pos 4)

abbrev pub link : ℕ → ℕ → ℕ → LinkAt
link number parent slot = record { number = number; parent = parent; slot = slot }

-- block 2 has container 0, and block 1 none
block_two_holds_zero : held_at Pointer four two_links 2 ≡ Some 0
block_two_holds_zero = refl

block_one_holds_none : held_at Pointer four two_links 1 ≡ None
block_one_holds_none = refl

-- the key 3 has container 0
key_three_holds_zero : held_at Hash keyed hash_words 3 ≡ Some 0
key_three_holds_zero = refl

-- eight elements in chunks of four are two chunks; the second of the root's chain is 0
second_chunk_is_zero : held_at Dynamic growing_node grown_words 1 ≡ Some 0
second_chunk_is_zero = refl

-- at the root the slot is the slot's number
at_the_root : link_for (four ∷ []) 0 four 2 1 ≡ link 1 0 2
at_the_root = refl

-- slot 9 of the second node is slot 1 of container 2
under_a_key : link_for (keyed ∷ (four ∷ [])) 1 four 9 0 ≡ link 0 3 1
under_a_key = refl

-- a dense node has no containers: the nearest that has is the one above it
past_a_dense_node : node_above (four ∷ (two ∷ (row_of_eight ∷ []))) 2 ≡ Some 0
past_a_dense_node = refl

-- eight elements in chunks of three are three chunks; two rows of them in each container
three_chunks : full_chain row_of_eight ≡ 3
three_chunks = refl

six_places : copy_slots (four ∷ (two ∷ (row_of_eight ∷ []))) 2 row_of_eight ≡ 6
six_places = refl

-- the second chunk of the second row of container 1
in_a_chain : link_for (four ∷ (two ∷ (row_of_eight ∷ []))) 2 row_of_eight 10 4 ≡ link 4 2 4
in_a_chain = refl
