-- Reads, writes and wants of the executor.
use Rattle.std.proofs.Common.{◌≡◌, ℕ, zero, suc, ◌<◌, ◌≤◌, arith, Bool, true, false, ◌&&◌, ◌==◌, if◌then◌else◌, find, List, [], ◌∷◌, ◌++◌, map, length, reverse, get_or, Option, Some, None, refl, sym, ap, ◌∙◌, subst}
use Rattle.std.specs.Prelude.{option_map, option_and_then, slice_get, Contains, IfSome, IsSome}
use Rattle.std.specs.List.{AllZip}
use Rattle.std.proofs.lemmas.Bool.{cond-true}
use Rattle.std.proofs.lemmas.List.{map-append, reverse-append, append-nil}
use Rattle.std.proofs.lemmas.Option.{same_Some}
use Rattle.sg_coord.specs.declared.coord.Coord.{Coord}
use Rattle.sg_coord.specs.Coord.{is_inside}
use Rattle.sg_coord.specs.Laws.{InsideTest, PointOfRow}
use Rattle.sg_layout.specs.declared.shape.NodeShape.{NodeShape}
use Rattle.sg_layout.specs.declared.shape.Shape.{Shape}
use Rattle.sg_layout.specs.Axes.{bounds_of_shape}
use Rattle.sg_layout.specs.Path.{offsets}
use Rattle.sg_layout.specs.Slots.{coordinate_of}
use Rattle.sg_flat.specs.declared.state.FlatLayout.{FlatLayout}
use Rattle.sg_flat.specs.declared.state.FlatState.{FlatState}
use Rattle.sg_flat.specs.State.{value_at, value_of}
use Rattle.sg_flat.specs.Kernel.{is_inside_of}
use Rattle.sg_store.specs.StoreWords.{StoreWords}
use Rattle.sg_store.specs.StandsFor.{StandsFor}
use Rattle.sg_store.specs.Spots.{LeadsAlong, place_of_spot}
use Rattle.sg_store.specs.StoreLaws.{CellsAreActive}
use Rattle.sg_store.specs.Walks.{cell_in, cell_along}
use Rattle.sg_store.specs.WellFormed.{IsReached, IsWellFormed}
use Rattle.sg_ir.specs.Runs as ir
use Rattle.sg_ir.specs.Runs.{Place, CodeWrite, is_own, at_of, cell_value, coord_of, is_active_place}
use Rattle.sg_ir.specs.Places.{place_of_coord, place_at}
use Rattle.sg_ir.specs.Laws.{PlaceHasCoordinate}
use Rattle.sg_words.specs.Words.{flag}
use Rattle.sg_flat.specs.Domain.{is_active}
use Rattle.sg_flat.proofs.Uses.{active_is, active_not}
use Rattle.sg_exec.specs.declared.lanes.held.Held.{Held}
use Rattle.sg_exec.specs.declared.lanes.cell_write.CellWrite.{CellWrite}
use Rattle.sg_exec.specs.Standing.{shapes_of}
use Rattle.sg_exec.specs.steps.Written.{own_write, last_or}
use Rattle.sg_exec.specs.steps.Machines.{seen_in, Sees, coord_from, IsDead, LeadsTo, cell_there, IsCellOf, cell_write}
use Rattle.sg_exec.proofs.StoreLists.{flat_at, shape_at, no_shape_at, value_there, idle_zero}

-- ---- the last own write

module _ {X Y : Type 0} (f : X → Y) where
  reversed_map : (xs : List X) → map f (reverse xs) ≡ reverse (map f xs)
  reversed_map [] = refl
  reversed_map (x ∷ xs) =
      ap (λ (it : List X). map f it) (reverse-append (x ∷ []) xs)
      ∙ (map-append f (reverse xs) (x ∷ []) ∙ (ap (λ (it : List Y). it ++ f x ∷ []) (reversed_map xs) ∙ sym (reverse-append (f x ∷ []) (map f xs))))

  find_map : (p : Y → Bool) (xs : List X) → find p (map f xs) ≡ option_map f (find (λ x. p (f x)) xs)
  find_map p [] = refl
  find_map p (x ∷ xs) = at_head (p (f x)) (find_map p xs)
    where
      at_head : (b : Bool) → find p (map f xs) ≡ option_map f (find (λ x. p (f x)) xs) → (if b then Some (f x) else find p (map f xs)) ≡ option_map f (if b then Some x else find (λ x. p (f x)) xs)
      at_head true rest = refl
      at_head false rest = rest

-- what the last own write gives, or else another value
own_told : (stores : List StoreWords) (layout field : ℕ) (made : List CodeWrite) → own_write layout field (map (cell_write stores) made) ≡ option_map (cell_write stores) (ir.own_write layout field made)
own_told stores layout field made =
    ap (find (λ (write : CellWrite). is_own write.way && ((write.layout == layout) && (write.place == field)))) (sym (reversed_map (cell_write stores) made))
    ∙ find_map (cell_write stores) (λ (write : CellWrite). is_own write.way && ((write.layout == layout) && (write.place == field))) (reverse made)

told : (stores : List StoreWords) (found : Option CodeWrite) (value : ℕ) → last_or (option_map (cell_write stores) found) value ≡ ir.value_or_own found value
told stores None value = refl
told stores (Some write) value = refl

-- the value of an own read
pub own_value_is : (stores : List StoreWords) (state : FlatState) (at here : Coord) (sees : Sees stores state) (layout field word : ℕ) (writes : List CellWrite) (made : List CodeWrite) → here ≡ at → writes ≡ map (cell_write stores) made
    → word ≡ last_or (own_write layout field writes) (value_of (shapes_of stores) state layout field here)
    → word ≡ ir.value_or_own (ir.own_write layout field made) (value_of (shapes_of stores) state layout field at)
own_value_is stores state at here sees layout field word writes made same is value =
    value ∙ ap (λ (x : Coord). last_or (own_write layout field writes) (value_of (shapes_of stores) state layout field x)) same
    ∙ ap (λ (ws : List CellWrite). last_or (own_write layout field ws) (value_of (shapes_of stores) state layout field at)) is
    ∙ ap (λ (o : Option CellWrite). last_or o (value_of (shapes_of stores) state layout field at)) (own_told stores layout field made)
    ∙ told stores (ir.own_write layout field made) (value_of (shapes_of stores) state layout field at)

-- ---- cells

pub cell_at_store : (stores : List StoreWords) (layout : ℕ) (store : StoreWords) (at : Coord) → slice_get stores layout ≡ Some store → cell_there stores layout (Some at) ≡ cell_in store at
cell_at_store stores layout store at is = ap (λ (found : Option StoreWords). option_and_then (λ (s : StoreWords). cell_in s at) found) is

pub cell_nowhere : (stores : List StoreWords) (layout : ℕ) (at : Coord) → slice_get stores layout ≡ None → cell_there stores layout (Some at) ≡ None
cell_nowhere stores layout at is = ap (λ (found : Option StoreWords). option_and_then (λ (s : StoreWords). cell_in s at) found) is

-- the cell of a layout's store, as it was got
pub reached_of : (stores : List StoreWords) (layout : ℕ) (store : StoreWords) (cell : Option ℕ) → slice_get stores layout ≡ Some store → IfSome cell (IsReached store) → IfSome cell (IsCellOf stores layout)
reached_of stores layout store None is reached = tt
reached_of stores layout store (Some cell) is reached = record { store = store; there = is; reached = reached }

pub reached_in : (stores : List StoreWords) (layout : ℕ) (store : StoreWords) (cell : Option ℕ) → slice_get stores layout ≡ Some store → IfSome cell (IsCellOf stores layout) → IfSome cell (IsReached store)
reached_in stores layout store None is of = tt
reached_in stores layout store (Some cell) is of = subst (λ (s : StoreWords). IsReached s cell) (same_Some of.store store (sym of.there ∙ is)) of.reached

-- the value in the cell of a coordinate
pub value_of_cell : (stores : List StoreWords) (state : FlatState) (layout place : ℕ) (at : Coord) (store : StoreWords) (cell : Option ℕ) (word : ℕ) → AllZip StandsFor stores state.layouts → slice_get stores layout ≡ Some store
    → cell_there stores layout (Some at) ≡ cell → ((flat : FlatLayout) → StandsFor store flat → (x : Coord) → cell_in store x ≡ cell → word ≡ value_at store.shape flat place x)
    → word ≡ value_of (shapes_of stores) state layout place at
value_of_cell stores state layout place at store cell word all is has value =
    let stood = flat_at stores state.layouts layout store all is in
    value stood.0 stood.2 at (sym (cell_at_store stores layout store at is) ∙ has) ∙ sym (value_there stores state layout place at store stood.0 is stood.1)

-- ---- values at places

offsets_length : (nodes : List NodeShape) (at : Coord) → length (offsets nodes at) ≡ length nodes
offsets_length [] at = refl
offsets_length (node ∷ later) at = ap suc (offsets_length later at)

-- what a place of a coordinate tells
pub record IsPlaceIn (stores : List StoreWords) (layout : ℕ) (at : Coord) (place : Place) : Type 0 where
  pub store : StoreWords
  pub there : slice_get stores layout ≡ Some store
  pub same_layout : place.layout ≡ layout
  pub path : place.path ≡ offsets store.shape.nodes at
  pub inside : is_inside (bounds_of_shape store.shape) at ≡ true

pub place_found : (stores : List StoreWords) (layout : ℕ) (at : Coord) (place : Place) → Some place ≡ place_at (shapes_of stores) layout at → IsPlaceIn stores layout at place
place_found stores layout at place is = by_store (slice_get stores layout) refl
  where
    by_test : (store : StoreWords) → slice_get stores layout ≡ Some store → (b : Bool) → is_inside (bounds_of_shape store.shape) at ≡ b
        → Some place ≡ (if b then Some (record { layout = layout; path = offsets store.shape.nodes at }) else None) → IsPlaceIn stores layout at place
    by_test store there true inside same =
        let one = same_Some place (record { layout = layout; path = offsets store.shape.nodes at }) same in
        record { store = store; there = there; same_layout = ap (λ (p : Place). p.layout) one; path = ap (λ (p : Place). p.path) one; inside = inside }
    by_test store there false outside same = absurd (cc)

    by_store : (found : Option StoreWords) → slice_get stores layout ≡ found → IsPlaceIn stores layout at place
    by_store None none = absurd (let h : Some place ≡ None = is ∙ ap (place_of_coord layout at) (no_shape_at stores layout none) in cc)
    by_store (Some store) there = by_test store there (is_inside (bounds_of_shape store.shape) at) refl (is ∙ ap (place_of_coord layout at) (shape_at stores layout store there))

told_at : (stores : List StoreWords) (layout : ℕ) (at : Coord) (place : Place) (found : IsPlaceIn stores layout at place) → PlaceHasCoordinate (shapes_of stores) layout at → Some place ≡ place_at (shapes_of stores) layout at
    → at_of (shapes_of stores) (Some place) ≡ Some at
told_at stores layout at place found has is =
    ap (at_of (shapes_of stores)) is ∙ has ∙ ap (λ (s : Option Shape). if is_inside_of s at then Some at else None) (shape_at stores layout found.store found.there)
    ∙ cond-true (is_inside (bounds_of_shape found.store.shape) at) (Some at) None found.inside

-- a register that holds none: nothing is active there, so the value is 0
pub value_dead : (stores : List StoreWords) (state : FlatState) (loop : Coord) (layout field : ℕ) (at : Coord) (place : Option Place) → AllZip StandsFor stores state.layouts → InsideTest → PointOfRow
    → PlaceHasCoordinate (shapes_of stores) layout at → IsDead stores place → place ≡ place_at (shapes_of stores) layout at
    → 0 ≡ cell_value (seen_in stores state loop) layout field (at_of (shapes_of stores) place)
value_dead stores state loop layout field at None all test point_of_row has dead is = refl
value_dead stores state loop layout field at (Some place) all test point_of_row has dead is =
    let found = place_found stores layout at place is in
    let store = found.store in
    let stood = flat_at stores state.layouts layout store all found.there in
    let flat = stood.0 in
    let here : slice_get stores place.layout ≡ Some store = ap (slice_get stores) found.same_layout ∙ found.there in
    let idle = (dead store here at [] (sym found.path ∙ sym (append-nil place.path))).idle flat stood.2 in
    sym (ap (cell_value (seen_in stores state loop) layout field) (told_at stores layout at place found has is) ∙ value_there stores state layout field at store flat found.there stood.1
    ∙ idle_zero store.shape flat field at test point_of_row stood.2.is_flat idle)

-- and it isn't active
pub active_dead : (stores : List StoreWords) (state : FlatState) (loop : Coord) (layout : ℕ) (at : Coord) (place : Option Place) → AllZip StandsFor stores state.layouts
    → PlaceHasCoordinate (shapes_of stores) layout at → IsDead stores place → place ≡ place_at (shapes_of stores) layout at
    → 0 ≡ flag (is_active_place (seen_in stores state loop) (at_of (shapes_of stores) place) place)
active_dead stores state loop layout at None all has dead is = refl
active_dead stores state loop layout at (Some place) all has dead is =
    let found = place_found stores layout at place is in
    let stood = flat_at stores state.layouts layout found.store all found.there in
    let here : slice_get stores place.layout ≡ Some found.store = ap (slice_get stores) found.same_layout ∙ found.there in
    let idle = (dead found.store here at [] (sym found.path ∙ sym (append-nil place.path))).idle stood.0 stood.2 in
    sym (ap (λ (told : Option Coord). flag (is_active_place (seen_in stores state loop) told (Some place))) (told_at stores layout at place found has is)
    ∙ (ap (λ (l : ℕ). flag (is_active state l at)) found.same_layout ∙ ap flag (active_not state layout stood.0 at stood.1 idle)))

-- a register that holds a spot after the last node: the coordinate is active
pub active_live : (stores : List StoreWords) (state : FlatState) (loop : Coord) (layout : ℕ) (at : Coord) (place : Option Place) (held : Held) (store : StoreWords) (cell : Bool) → AllZip StandsFor stores state.layouts
    → LeadsTo stores held place → slice_get stores held.layout ≡ Some store → CellsAreActive store → PlaceHasCoordinate (shapes_of stores) layout at → place ≡ place_at (shapes_of stores) layout at
    → ((path : List ℕ) → LeadsAlong store held.spot path → length path ≡ length store.shape.nodes → (cell ≡ true) × IsWellFormed store)
    → flag cell ≡ flag (is_active_place (seen_in stores state loop) (at_of (shapes_of stores) place) place)
active_live stores state loop layout at place held store cell all leads there law has is tells =
    let mine : Place = record { layout = held.layout; path = leads.path } in
    let found = place_found stores layout at mine (sym leads.is_place ∙ is) in
    let stood = flat_at stores state.layouts held.layout store all there in
    let one : leads.store ≡ store = same_Some leads.store store (sym leads.there ∙ there) in
    let two : found.store ≡ store = same_Some found.store store (sym found.there ∙ ap (slice_get stores) (sym found.same_layout) ∙ there) in
    let way : leads.path ≡ offsets store.shape.nodes at = found.path ∙ ap (λ (s : StoreWords). offsets s.shape.nodes at) two in
    let along : LeadsAlong store held.spot leads.path = subst (λ (s : StoreWords). LeadsAlong s held.spot leads.path) one leads.leads in
    let told = tells leads.path along (ap length way ∙ offsets_length store.shape.nodes at) in
    let inside : is_inside (bounds_of_shape store.shape) at ≡ true = subst (λ (s : StoreWords). is_inside (bounds_of_shape s.shape) at ≡ true) two found.inside in
    let reached : cell_in store at ≡ Some (place_of_spot store.shape.nodes held.spot) =
    cond-true (is_inside (bounds_of_shape store.shape) at) (cell_along store (offsets store.shape.nodes at)) None inside ∙ (ap (cell_along store) (sym way) ∙ along.leads) in
    let active : Contains stood.0.active at = (law told.1 stood.0 stood.2 at).0 (subst (λ (o : Option ℕ). IsSome o) (sym reached) refl) in
    ap flag told.0
    ∙ sym (ap (λ (p : Option Place). flag (is_active_place (seen_in stores state loop) (at_of (shapes_of stores) p) p)) leads.is_place
    ∙ (ap (λ (told : Option Coord). flag (is_active_place (seen_in stores state loop) told (Some mine))) (told_at stores layout at mine found has (sym leads.is_place ∙ is))
    ∙ ap flag (active_is state held.layout stood.0 at stood.1 active)))

-- a register that holds a spot: the value in its store
pub value_live : (stores : List StoreWords) (state : FlatState) (loop : Coord) (layout field : ℕ) (at : Coord) (place : Option Place) (held : Held) (store : StoreWords) (word : ℕ) → AllZip StandsFor stores state.layouts
    → LeadsTo stores held place → slice_get stores held.layout ≡ Some store → place ≡ place_at (shapes_of stores) layout at
    → ((flat : FlatLayout) → StandsFor store flat → (path : List ℕ) → LeadsAlong store held.spot path → length path ≡ length store.shape.nodes → word ≡ value_at store.shape flat field (coordinate_of store.shape path))
    → word ≡ cell_value (seen_in stores state loop) layout field (at_of (shapes_of stores) place)
value_live stores state loop layout field at place held store word all leads there is value =
    let mine : Place = record { layout = held.layout; path = leads.path } in
    let found = place_found stores layout at mine (sym leads.is_place ∙ is) in
    let stood = flat_at stores state.layouts held.layout store all there in
    let one : leads.store ≡ store = same_Some leads.store store (sym leads.there ∙ there) in
    let two : found.store ≡ store = same_Some found.store store (sym found.there ∙ ap (slice_get stores) (sym found.same_layout) ∙ there) in
    let whole : length leads.path ≡ length store.shape.nodes =
    ap length found.path ∙ offsets_length found.store.shape.nodes at ∙ ap (λ (s : StoreWords). length s.shape.nodes) two in
    let along : LeadsAlong store held.spot leads.path = subst (λ (s : StoreWords). LeadsAlong s held.spot leads.path) one leads.leads in
    let told : at_of (shapes_of stores) place ≡ Some (coordinate_of store.shape leads.path) =
    ap (at_of (shapes_of stores)) leads.is_place ∙ ap (option_map (λ (shape : Shape). coordinate_of shape leads.path)) (shape_at stores held.layout store there) in
    value stood.0 stood.2 leads.path along whole
    ∙ sym (ap (cell_value (seen_in stores state loop) layout field) told
    ∙ ap (λ (l : ℕ). value_of (shapes_of stores) state l field (coordinate_of store.shape leads.path)) (sym found.same_layout)
    ∙ value_there stores state held.layout field (coordinate_of store.shape leads.path) store stood.0 there stood.1)

-- ---- coordinates of index registers

pub named_same : (regs : List ℕ) (words : ℕ → ℕ) (index : List ℕ) → ((r : ℕ) → get_or regs r 0 ≡ words r) → map (λ r. get_or regs r 0) index ≡ map words index
named_same regs words [] are = refl
named_same regs words (r ∷ index) are = ap (λ (w : ℕ). w ∷ map (λ r. get_or regs r 0) index) (are r) ∙ ap (λ (ws : List ℕ). words r ∷ ws) (named_same regs words index are)

pub coord_parts : (words : List ℕ) (n a b c : ℕ) → n ≡ length words → a ≡ get_or words 0 0 → b ≡ get_or words 1 0 → c ≡ get_or words 2 0 → coord_from n a b c ≡ coord_of words
coord_parts words n a b c is_n is_a is_b is_c =
    ap (λ (k : ℕ). coord_from k a b c) is_n ∙ ap (λ (k : ℕ). coord_from (length words) k b c) is_a
    ∙ ap (λ (k : ℕ). coord_from (length words) (get_or words 0 0) k c) is_b ∙ ap (λ (k : ℕ). coord_from (length words) (get_or words 0 0) (get_or words 1 0) k) is_c

pub map_length : (f : ℕ → ℕ) (index : List ℕ) → length index ≡ length (map f index)
map_length f [] = refl
map_length f (r ∷ index) = ap suc (map_length f index)

pub part_some : (f : ℕ → ℕ) (index : List ℕ) (axis r : ℕ) → axis < length index → r ≡ get_or index axis r → f r ≡ get_or (map f index) axis 0
part_some f [] axis r below is = absurd (omega (arith, below))
part_some f (first ∷ index) zero r below is = ap f is
part_some f (first ∷ index) (suc axis) r below is = part_some f index axis r (omega (arith, below)) is

pub part_none : (f : ℕ → ℕ) (index : List ℕ) (axis : ℕ) → length index ≤ axis → 0 ≡ get_or (map f index) axis 0
part_none f [] axis past = refl
part_none f (first ∷ index) zero past = absurd (omega (arith, past))
part_none f (first ∷ index) (suc axis) past = part_none f index axis (omega (arith, past))

-- ---- the cell of a contribution

-- a register that holds none: the coordinate has no cell
pub cell_dead : (stores : List StoreWords) (layout : ℕ) (at : Coord) (place : Option Place) → PlaceHasCoordinate (shapes_of stores) layout at → IsDead stores place
    → place ≡ place_at (shapes_of stores) layout at → None ≡ cell_there stores layout (at_of (shapes_of stores) place)
cell_dead stores layout at None has dead is = refl
cell_dead stores layout at (Some place) has dead is =
    let found = place_found stores layout at place is in
    let here : slice_get stores place.layout ≡ Some found.store = ap (slice_get stores) found.same_layout ∙ found.there in
    sym (ap (cell_there stores layout) (told_at stores layout at place found has is) ∙ cell_at_store stores layout found.store at found.there
    ∙ (dead found.store here at [] (sym found.path ∙ sym (append-nil place.path))).cell)

-- a register that holds a spot: the spot's cell
pub cell_live : (stores : List StoreWords) (layout : ℕ) (at : Coord) (place : Option Place) (held : Held) (store : StoreWords) (cell : Option ℕ)
    → LeadsTo stores held place → slice_get stores held.layout ≡ Some store → place ≡ place_at (shapes_of stores) layout at
    → (held.layout ≡ layout → (s : StoreWords) → slice_get stores layout ≡ Some s → (path : List ℕ) → LeadsAlong s held.spot path → length path ≡ length s.shape.nodes → cell_in s (coordinate_of s.shape path) ≡ cell)
    → cell ≡ cell_there stores layout (at_of (shapes_of stores) place)
cell_live stores layout at place held store cell leads there is value =
    let mine : Place = record { layout = held.layout; path = leads.path } in
    let found = place_found stores layout at mine (sym leads.is_place ∙ is) in
    let one : leads.store ≡ store = same_Some leads.store store (sym leads.there ∙ there) in
    let two : found.store ≡ store = same_Some found.store store (sym found.there ∙ ap (slice_get stores) (sym found.same_layout) ∙ there) in
    let whole : length leads.path ≡ length store.shape.nodes =
    ap length found.path ∙ offsets_length found.store.shape.nodes at ∙ ap (λ (s : StoreWords). length s.shape.nodes) two in
    let along : LeadsAlong store held.spot leads.path = subst (λ (s : StoreWords). LeadsAlong s held.spot leads.path) one leads.leads in
    let here : slice_get stores layout ≡ Some store = ap (slice_get stores) (sym found.same_layout) ∙ there in
    let told_it : at_of (shapes_of stores) place ≡ Some (coordinate_of store.shape leads.path) =
    ap (at_of (shapes_of stores)) leads.is_place ∙ ap (option_map (λ (shape : Shape). coordinate_of shape leads.path)) (shape_at stores held.layout store there) in
    sym (ap (cell_there stores layout) told_it ∙ cell_at_store stores layout store (coordinate_of store.shape leads.path) here ∙ value found.same_layout store here leads.path along whole)
