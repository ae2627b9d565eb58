-- Words planned beside those of a node, of which only that stays whose slots lead to places that a row keeps.
use Rattle.std.specs.Prelude.{◌≡◌, ℕ, zero, suc, ◌/◌, ◌<◌, Bool, true, false, not, ◌==◌, ◌&&◌, nat_lt, cond, List, length, slice_index, slice_index_or}
use Rattle.std.specs.List.{list_any}
use Rattle.sg_layout.specs.declared.shape.NodeShape.{NodeShape}
use Rattle.sg_layout.specs.Axes.{size_of}
use Rattle.sg_store.specs.declared.node.NodeWords.{NodeWords}
use Rattle.sg_links.specs.Lists.{Lists, list_of}
use Rattle.sg_store.specs.Slots.{mask_bit, linked, chunk_cell}
use Rattle.sg_store.specs.steps.Trimming.{is_kept, leads_kept}

-- the places that a row keeps; none past its end
abbrev pub in_row : List Bool → ℕ → Bool
in_row row place = slice_index_or row place false

-- a link stays where the place of its number is kept, and else is none
abbrev pub kept_link : (ℕ → Bool) → ℕ → ℕ
kept_link keeps link = cond (is_kept keeps (linked link)) link 0

-- the first so many bits are those of the masks whose slots are kept, and no other is set
pub record AreKeptBits (masks kept : List ℕ) (row : List Bool) (through : ℕ) : Type 0 where
  pub as_many : length kept ≡ length masks
  pub bits : (slot : ℕ) → mask_bit kept slot ≡ (nat_lt slot through && (mask_bit masks slot && in_row row slot))

-- the first so many links are those whose places are kept, and the others are none
pub record AreKeptLinks (links kept : List ℕ) (row : List Bool) (through : ℕ) : Type 0 where
  pub as_many : length kept ≡ length links
  pub each : (slot : ℕ) → slice_index kept slot ≡ cond (nat_lt slot through) (kept_link (in_row row) (slice_index links slot)) 0

-- the row keeps exactly those cells in which some field has a word
abbrev pub HasWords : List (List ℕ) → List Bool → Type 0
HasWords fields row = (cell : ℕ) → in_row row cell ≡ list_any (λ words. not (slice_index words cell == 0)) fields

-- a slot that leads to a place that is kept is one of the first so many
abbrev pub LeadsWithin : (ℕ → Bool) → NodeShape → NodeWords → ℕ → Type 0
LeadsWithin keeps node kept slots = (slot : ℕ) → leads_kept keeps node kept slot ≡ true → slot < slots

-- the row keeps exactly the places above those of the first so many slots that lead to a place that is kept
pub record AreMarked (keeps : ℕ → Bool) (node : NodeShape) (kept : NodeWords) (above : List Bool) (places through : ℕ) : Type 0 where
  pub long : length above ≡ places
  pub marked : (slot : ℕ) → slot < through → leads_kept keeps node kept slot ≡ true → in_row above (slot / size_of node.sizes) ≡ true
  pub only : (place : ℕ) → in_row above place ≡ true → (slot : ℕ) × (leads_kept keeps node kept slot ≡ true) × (slot / size_of node.sizes ≡ place)

-- one more than the greatest of the numbers below this one that the test keeps; 0 if it keeps none
abbrev pub last_kept : (ℕ → Bool) → ℕ → ℕ
last_kept keeps zero = 0
last_kept keeps (suc n) = cond (keeps n) (suc n) (last_kept keeps n)

-- the chain of a parent has a cell for an index, and it is kept
abbrev pub keeps_cell : Lists → ℕ → (ℕ → Bool) → ℕ → ℕ → Bool
keeps_cell chains chunk keeps parent index = is_kept keeps (chunk_cell chunk (list_of chains parent) index)

-- the length of a parent up to its last slot that leads to a cell that is kept
abbrev pub kept_length : NodeWords → ℕ → (ℕ → Bool) → ℕ → ℕ
kept_length kept chunk keeps parent = last_kept (keeps_cell kept.chains chunk keeps parent) (slice_index kept.lengths parent)

-- the first so many lengths are those, and the others are as they were
pub record AreKeptLengths (kept : NodeWords) (chunk : ℕ) (row : List Bool) (lengths : List ℕ) (through : ℕ) : Type 0 where
  pub as_many : length lengths ≡ length kept.lengths
  pub each : (parent : ℕ) → slice_index lengths parent ≡ cond (nat_lt parent through) (kept_length kept chunk (in_row row) parent) (slice_index kept.lengths parent)
