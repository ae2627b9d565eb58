-- A store whose nodes are trimmed to the cells that a test keeps: it is well-formed again, and its slots are those that are live for the
-- coordinates of these cells.
use Rattle.std.proofs.Common.{◌≡◌, ◌≢◌, ℕ, ◌≤◌, Bool, true, List, [], ◌∷◌, length, take, Some, refl, sym, ap, ◌∙◌, arith}
use Rattle.std.specs.Prelude.{slice_index}
use Rattle.std.specs.List.{All, AllZip, Contains}
use Rattle.std.proofs.lemmas.List.{get_or_default}
use Rattle.std.proofs.lemmas.List.Folds.{Any-from_list_any, list_any-from_Any}
use Rattle.sg_coord.specs.declared.coord.Coord.{Coord}
use Rattle.sg_coord.specs.Laws.{InsideTest}
use Rattle.sg_layout.specs.declared.shape.Kind.{Kind}
use Rattle.sg_layout.specs.declared.shape.NodeShape.{NodeShape}
use Rattle.sg_layout.specs.declared.shape.Shape.{Shape}
use Rattle.sg_layout.specs.Axes.{bounds_of_shape}
use Rattle.sg_layout.specs.Live.{kind_at, makes_live, is_live}
use Rattle.sg_layout.specs.Path.{offsets, path}
use Rattle.sg_layout.specs.PathLaws.{PathIsSlot, WholePathIsOffsets, SlotIsPath}
use Rattle.sg_layout.specs.Slots.{coordinate_of}
use Rattle.sg_pool.specs.Numbers.{IsParted}
use Rattle.sg_store.specs.declared.node.NodeWords.{NodeWords}
use Rattle.sg_store.specs.StoreWords.{StoreWords}
use Rattle.sg_store.specs.Slots.{place_below, active_below}
use Rattle.sg_store.specs.Walks.{cell_along, cell_in, is_on}
use Rattle.sg_store.specs.WellFormed.{AreNodes, IsWithinCap, IsReached, IsWellFormed, is_root, cell_count}
use Rattle.sg_store.specs.StandsFor.{HasLiveSlots}
use Rattle.sg_store.specs.steps.Trimming.{AreTrimmed}
use Rattle.sg_store.proofs.ActiveCells.{offsets_are_slot, cell_parts, cell_from_parts}
use Rattle.sg_store.proofs.SlotPaths.{slot_offsets, slot_long, same_bool}
use Rattle.sg_store.proofs.Stepping.{links_lead}
use Rattle.sg_store.proofs.Walking.{AreOne, links_are_one, active_are_one, walks_apart, own_kind, own_kind_is}
use Rattle.sg_store.proofs.KeptPlaces.{AreReachedFrom, kept_is_from, whole_offsets, whole_long}
use Rattle.sg_store.proofs.TrimmedNodes.{KeptLive, nodes_again}
use Rattle.sg_store.proofs.TrimmedWalks.{AreSized, cell_stays, cell_was, on_leads, front_on}

-- the store with other words, and other values in its cells
abbrev pub with_words : StoreWords → List NodeWords → List (List ℕ) → StoreWords
with_words store nodes fields = record store { nodes = nodes; fields = fields }

-- nodes trimmed to cells that are all reached
pub record TrimsStore (store : StoreWords) (afters : List NodeWords) (cells : ℕ → Bool) : Type 0 where
  pub well : IsWellFormed store
  pub sized : AreSized store.shape.nodes
  pub reached : (cell : ℕ) → cells cell ≡ true → IsReached store cell
  pub trimmed : AreTrimmed store.shape.nodes store.nodes afters cells

-- ── It is well-formed ──

from_root : (store : StoreWords) (afters : List NodeWords) (cells : ℕ → Bool) → TrimsStore store afters cells → AreReachedFrom store.shape.nodes store.nodes cells (λ place. place ≡ 0)
from_root store afters cells trims = record {
  reached = λ cell on. let is = trims.reached cell on in (0, is.slot, refl, is.is_slot, is.leads);
}

root_live : (nodes : List NodeShape) (words : List NodeWords) (cells : ℕ → Bool) → AreOne active_below nodes words → AreReachedFrom nodes words cells (λ place. place ≡ 0) → KeptLive nodes words cells is_root
root_live [] words cells one reached = tt
root_live (node ∷ later) words cells one reached = λ place on.
    ap is_root (kept_is_from (node ∷ later) words cells (λ p. p ≡ 0) one reached place on)

pub trimmed_nodes : (store : StoreWords) (afters : List NodeWords) (cells : ℕ → Bool) → TrimsStore store afters cells → AreNodes store.shape.nodes afters 1 is_root
trimmed_nodes store afters cells trims =
    let one = active_are_one store.shape.nodes store.nodes 1 is_root trims.well.nodes_fit in
    let from = from_root store afters cells trims in
    nodes_again store.shape.nodes store.nodes afters 1 is_root is_root cells (λ place. place ≡ 0) trims.sized trims.well.nodes_fit one from trims.trimmed
    (root_live store.shape.nodes store.nodes cells one from)

-- a cell that is kept is still reached
pub still_reached : (store : StoreWords) (afters : List NodeWords) (fields : List (List ℕ)) (cells : ℕ → Bool) → TrimsStore store afters cells → (cell : ℕ) → cells cell ≡ true → IsReached (with_words store afters fields) cell
still_reached store afters fields cells trims cell on =
    let was = trims.reached cell on in
    record {
      slot = was.slot;
      is_slot = was.is_slot;
      leads = cell_stays store.shape.nodes store.nodes afters cells trims.sized trims.trimmed 0 was.slot cell was.is_slot was.leads on;
    }

-- rows of values that are 0 in all other cells
abbrev pub AreKeptRows : StoreWords → (ℕ → Bool) → List (List ℕ) → Type 0
AreKeptRows store cells fields =
    All (λ (row : List ℕ). (length row ≡ cell_count store.shape) × ((cell : ℕ) → slice_index row cell ≢ 0 → cells cell ≡ true)) fields

pub trimmed_well_formed : (store : StoreWords) (afters : List NodeWords) (fields : List (List ℕ)) (cells : ℕ → Bool) → TrimsStore store afters cells → AllZip (λ (node : NodeShape) (kept : NodeWords). IsWithinCap node.kind node kept) store.shape.nodes afters → All (λ (kept : NodeWords). IsParted kept.pool) afters → length fields ≡ length store.shape.fields → AreKeptRows store cells fields → IsWellFormed (with_words store afters fields)
trimmed_well_formed store afters fields cells trims capped parted many rows = record {
  accepted = trims.well.accepted;
  nodes_fit = trimmed_nodes store afters cells trims;
  within_caps = capped;
  numbers_parted = parted;
  few_words = trims.well.few_words;
  few_cells = trims.well.few_cells;
  field_count = many;
  rows_fit = λ k d below.
      let row = rows k d below in
      record { cells = row.0; only_reached = λ cell some. still_reached store afters fields cells trims cell (row.1 cell some) };
}

-- a cell that has a coordinate had it
pub cell_was_there : (store : StoreWords) (afters : List NodeWords) (fields : List (List ℕ)) (cells : ℕ → Bool) → TrimsStore store afters cells → (at : Coord) (cell : ℕ) → cell_in (with_words store afters fields) at ≡ Some cell → cell_in store at ≡ Some cell
cell_was_there store afters fields cells trims at cell leads =
    let parts = cell_parts (with_words store afters fields) at cell leads in
    cell_from_parts store at cell parts.0 (cell_was store.shape.nodes store.nodes afters cells trims.trimmed 0 (offsets store.shape.nodes at) cell parts.1)

-- ── Its slots ──

-- the coordinates of the cells that are kept
pub record AreOfKept (store : StoreWords) (cells : ℕ → Bool) (coords : List Coord) : Type 0 where
  pub each : (at : Coord) → Contains coords at → (cell : ℕ) × (cell_in store at ≡ Some cell) × (cells cell ≡ true)
  pub all : (at : Coord) (cell : ℕ) → cell_in store at ≡ Some cell → cells cell ≡ true → Contains coords at

-- the laws of coordinates and paths that tell it
pub record SlotLaws (shape : Shape) : Type 0 where
  pub inside : InsideTest
  pub is_slot : PathIsSlot shape
  pub whole : WholePathIsOffsets shape
  pub is_path : SlotIsPath shape

own_kind_at : (nodes : List NodeShape) (number : ℕ) (slot : List ℕ) → 1 ≤ number → length slot ≡ number → own_kind nodes slot ≡ kind_at nodes number
own_kind_at nodes number [] some long = absurd (omega (arith, some, long))
own_kind_at nodes number (o ∷ slot) some long = own_kind_is nodes o slot ∙ ap (kind_at nodes) long

pub trimmed_live : (store : StoreWords) (afters : List NodeWords) (fields : List (List ℕ)) (cells : ℕ → Bool) (coords : List Coord) → SlotLaws store.shape → TrimsStore store afters cells → AreOfKept store cells coords → HasLiveSlots (with_words store afters fields) (λ _. coords)
trimmed_live store afters fields cells coords laws trims of_kept number slot is =
    let nodes : List NodeShape = store.shape.nodes in
    let long : length slot ≡ number = slot_long nodes number slot is.within is.is_slot in
    let kind : own_kind nodes slot ≡ kind_at nodes number = own_kind_at nodes number slot is.first long in
    same_bool (is_on nodes afters 0 slot) (is_live store.shape coords number slot)
    (λ on.
    let led = on_leads nodes store.nodes afters cells trims.trimmed 0 slot (slot_offsets nodes number slot is.is_slot) (λ dense. is.has_activity (sym kind ∙ dense)) on in
    let was = trims.reached led.cell led.is_kept in
    let same = walks_apart place_below nodes store.nodes (links_are_one nodes store.nodes 1 is_root trims.well.nodes_fit) 0 0 was.slot led.whole led.cell
    (whole_offsets nodes was.slot was.is_slot) (whole_offsets nodes led.whole led.is_slot) (whole_long nodes was.slot was.is_slot ∙ sym (whole_long nodes led.whole led.is_slot))
    (links_lead nodes store.nodes 0 was.slot led.cell was.leads) led.leads in
    let at : Coord = coordinate_of store.shape led.whole in
    let told = laws.is_path trims.well.accepted led.whole led.is_slot in
    let leads : cell_in store at ≡ Some led.cell =
    cell_from_parts store at led.cell ((laws.inside (bounds_of_shape store.shape) at).1 told.0) (ap (cell_along store) (told.1 ∙ sym same.1) ∙ was.leads) in
    let has : Contains coords at = of_kept.all at led.cell leads led.is_kept in
    let front : makes_live (kind_at nodes number) (path store.shape at number) slot ≡ true =
    ap (λ (k : Kind). makes_live k (path store.shape at number) slot) (sym kind) ∙ ap (λ w. makes_live (own_kind nodes slot) (take number w) slot) told.1
    ∙ ap (λ n. makes_live (own_kind nodes slot) (take n led.whole) slot) (sym long) ∙ led.front in
    list_any-from_Any (λ (c : Coord). makes_live (kind_at nodes number) (path store.shape c number) slot) coords (has.0, at, has.1, has.2, front))
    (λ live.
    let found = Any-from_list_any (λ (c : Coord). makes_live (kind_at nodes number) (path store.shape c number) slot) coords live in
    let at : Coord = found.1 in
    let kept = of_kept.each at (found.0, found.2, get_or_default coords found.0 at at found.2 ∙ found.3) in
    let parts = cell_parts store at kept.0 kept.1 in
    front_on nodes store.nodes afters cells trims.sized trims.trimmed 0 (offsets nodes at) slot kept.0 (offsets_are_slot store.shape laws.is_slot laws.whole trims.well.accepted at) parts.1 kept.2
    (omega (arith, is.first, long))
    (ap (λ (k : Kind). makes_live k (take (length slot) (offsets nodes at)) slot) kind ∙ ap (λ n. makes_live (kind_at nodes number) (take n (offsets nodes at)) slot) long ∙ found.4))
