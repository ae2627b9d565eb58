-- What a store is made of, as contracts see it.
use Rattle.std.specs.Prelude.{ℕ, List, [], slice_index, slice_index_or}
use Rattle.sg_layout.specs.declared.shape.Shape.{Shape}
use Rattle.sg_store.specs.declared.node.NodeWords.{NodeWords}

-- the shape of the layout, the words of each node from the root on, and for each field its values, by the numbers of
-- cells
pub record StoreWords : Type 0 where
  pub shape : Shape
  pub nodes : List NodeWords
  pub fields : List (List ℕ)

-- the value of a field, from 0, in a cell
abbrev pub word_in : StoreWords → ℕ → ℕ → ℕ
word_in store place cell = slice_index (slice_index_or store.fields place []) cell
