-- The words of a store at coordinates, and words that move from a store to another.
use Rattle.std.specs.Prelude.{◌≡◌, ◌≢◌, ◌⊎◌, ℕ, ◌<◌, Bool, false, not, ◌==◌, List, length, Option, Some, None, Contains, slice_index}
use Rattle.std.specs.List.{list_any}
use Rattle.sg_coord.specs.declared.coord.Coord.{Coord}
use Rattle.sg_layout.specs.declared.shape.Shape.{Shape}
use Rattle.sg_layout.specs.Closure.{closure}
use Rattle.sg_flat.specs.declared.state.FlatLayout.{FlatLayout}
use Rattle.sg_flat.specs.State.{opening_layout}
use Rattle.sg_store.specs.StoreWords.{StoreWords, word_in}
use Rattle.sg_store.specs.Walks.{cell_in}

-- some of these rows of words has a word other than 0 in a cell
abbrev pub has_word_in : List (List ℕ) → ℕ → Bool
has_word_in rows cell = list_any (λ row. not (slice_index row cell == 0)) rows

-- some field has one in a cell
abbrev pub has_word : StoreWords → ℕ → Bool
has_word store cell = has_word_in store.fields cell

-- and so in the cell of a coordinate, if it has one
abbrev pub is_valued_by : StoreWords → Option ℕ → Bool
is_valued_by store None = false
is_valued_by store (Some cell) = has_word store cell

abbrev pub is_valued : StoreWords → Coord → Bool
is_valued store at = is_valued_by store (cell_in store at)

-- the word in a cell; 0 where there is none
abbrev pub word_or_zero : StoreWords → ℕ → Option ℕ → ℕ
word_or_zero store place None = 0
word_or_zero store place (Some cell) = word_in store place cell

-- the word of a field at a coordinate
abbrev pub kept_word : StoreWords → ℕ → Coord → ℕ
kept_word store place at = word_or_zero store place (cell_in store at)

-- the layout for which a new store of a layout stands once it is opened for coordinates
abbrev pub opened_layout : Shape → List Coord → FlatLayout
opened_layout to coords = record (opening_layout to) { active = closure to coords }

-- the same tree
pub record SameTree (old now : StoreWords) : Type 0 where
  pub shape : now.shape ≡ old.shape
  pub nodes : now.nodes ≡ old.nodes

-- so many fields have at a coordinate the words that another store has there, and all other words are as before
pub record MovesFields (from old now : StoreWords) (at : Coord) (fields : ℕ) : Type 0 where
  pub tree : SameTree old now
  pub here : (cell place : ℕ) → cell_in old at ≡ Some cell → place < fields → word_in now place cell ≡ kept_word from place at
  pub elsewhere : (cell place : ℕ) → cell_in old at ≢ Some cell → word_in now place cell ≡ word_in old place cell

-- all fields have
abbrev pub MovesCell : StoreWords → StoreWords → StoreWords → Coord → Type 0
MovesCell from old now at = MovesFields from old now at (length old.shape.fields)

-- at these coordinates all fields have the words that another store has there; at every other coordinate each word is as before, or it is
-- that of the other store too
pub record HasMoved (from old now : StoreWords) (coords : List Coord) : Type 0 where
  pub tree : SameTree old now
  pub moved : (at : Coord) (cell place : ℕ) → cell_in old at ≡ Some cell → place < length old.shape.fields → Contains coords at → word_in now place cell ≡ kept_word from place at
  pub other : (at : Coord) (cell place : ℕ) → cell_in old at ≡ Some cell → place < length old.shape.fields
      → (word_in now place cell ≡ word_in old place cell) ⊎ (word_in now place cell ≡ kept_word from place at)
