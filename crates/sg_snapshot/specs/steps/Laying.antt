-- Layouts by the words that their fields have in each row.
use Rattle.std.specs.Prelude.{◌≡◌, ◌≢◌, ℕ, ◌^◌, ◌<◌, ◌&&◌, ◌==◌, nat_lt, List, [], map, length, Contains, slice_index, drop, if◌then◌else◌, Option, None, Some, Result, Ok, Err}
use Rattle.std.specs.List.{range_with_len, slice_index_or}
use Rattle.sg_words.specs.declared.memory.Stop.{Stop}
use Rattle.sg_words.specs.declared.memory.Stop.TheVariants as stop
use Rattle.sg_words.specs.Results.{fault_or}
use Rattle.sg_coord.specs.declared.coord.Coord.{Coord}
use Rattle.sg_coord.specs.Bounds.{volume}
use Rattle.sg_coord.specs.Coord.{point_at}
use Rattle.sg_layout.specs.declared.shape.Shape.{Shape}
use Rattle.sg_layout.specs.Axes.{bounds_of_shape}
use Rattle.sg_layout.specs.Closure.{closure}
use Rattle.sg_layout.specs.Need.{FullNode, first_full}
use Rattle.sg_flat.specs.declared.state.FlatLayout.{FlatLayout}
use Rattle.sg_flat.specs.declared.state.FlatState.{FlatState}
use Rattle.sg_flat.specs.Words.{words_of}
use Rattle.sg_store.specs.StoreWords.{StoreWords}
use Rattle.sg_store.specs.StandsFor.{StandsFor}
use Rattle.sg_snapshot.specs.declared.part.Part.{Part}
use Rattle.sg_snapshot.specs.declared.fault.SnapFault.{SnapFault}
use Rattle.sg_snapshot.specs.declared.fault.SnapFault.TheVariants.{Full}
use Rattle.sg_snapshot.specs.Restoring.{points_in, word_beside, layout_of, layouts_of, full_fault, first_too_full}

-- the flat layout with these active coordinates in which each field, from 0, has these words in the rows
abbrev pub laid : Shape → List Coord → (ℕ → ℕ → ℕ) → FlatLayout
laid shape active word = record {
  active = active;
  fields = map (λ place. words_of (volume (bounds_of_shape shape)) (word place)) (range_with_len 0 (length shape.fields));
}

-- the active coordinates are closed, each row with a word in a field is that of one of them, and words are below 2 ^ 32
pub record IsLaid (shape : Shape) (active : List Coord) (word : ℕ → ℕ → ℕ) : Type 0 where
  pub closed : active ≡ closure shape active
  pub there : (place row : ℕ) → place < length shape.fields → row < volume (bounds_of_shape shape) → word place row ≢ 0 → Contains active (point_at (bounds_of_shape shape) row)
  pub small : (place row : ℕ) → place < length shape.fields → word place row < 2 ^ 32

-- the words once the fields before one have been given words in a row
abbrev pub put_row : ℕ → ℕ → (ℕ → ℕ) → (ℕ → ℕ → ℕ) → ℕ → ℕ → ℕ
put_row places row given word place other = if nat_lt place places && (row == other) then given place else word place other

-- the word with an index in the list of each field
abbrev pub words_at : List (List ℕ) → ℕ → ℕ → ℕ
words_at words index place = slice_index (slice_index_or words place []) index

-- a row's words are given to the fields before one: if a store stood for a laid layout, another stands for that with these words
pub record GivesRow (before now : StoreWords) (places row : ℕ) (given : ℕ → ℕ) (active : List Coord) (word : ℕ → ℕ → ℕ) : Type 0 where
  pub laid_so : IsLaid before.shape active (put_row places row given word)
  pub stands : StandsFor now (laid before.shape active (put_row places row given word))

-- nothing if no node is too full, else the fault of a layout with a number
abbrev pub unless_too_full : ℕ → Option FullNode → Result Unit SnapFault
unless_too_full number None = Ok tt
unless_too_full number (Some full) = Err (Full number full.node full.cap)

-- a store that stands for the part of a layout with a number, or the fault of the node that has no room for it, unless memory ran out
abbrev pub StandsForPart : ℕ → Shape → Part → Result StoreWords (Stop SnapFault) → Type 0
StandsForPart number shape part (Ok store) = (store.shape ≡ shape) × StandsFor store (layout_of shape part) × (first_full shape (points_in shape part) ≡ None)
StandsForPart number shape part (Err stop.Memory) = Unit {0}
StandsForPart number shape part (Err (stop.Refused fault)) = full_fault number (first_full shape (points_in shape part)) ≡ Some fault

-- the word that each field of a part has beside a row, from an index of the rows on
abbrev pub beside_from : Part → ℕ → ℕ → ℕ → ℕ
beside_from part from place row = word_beside (drop from part.rows) (drop from (slice_index_or part.words place [])) row

-- the state of parts, or the fault of the first layout with a node without room
abbrev pub filled : List Shape → List Part → Result FlatState SnapFault
filled shapes parts = fault_or (first_too_full 0 shapes parts) (Ok (record { layouts = layouts_of shapes parts }))
