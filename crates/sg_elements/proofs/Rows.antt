-- The row numbers that the walk collects are those of the active coordinates, so that in order they are the active list.
use Rattle.std.proofs.Common.{◌≡◌, ℕ, ◌<◌, ◌≤◌, Bool, true, false, cond, eqb, List, length, map, filter, take, get_or, None, is_some, Result, Ok, Err, refl, sym, ap, ◌∙◌, subst, arith}
use Rattle.std.specs.Result.{IfOk}
use Rattle.std.specs.List.{Contains, All, IsDistinct, range_with_len}
use Rattle.std.specs.List.Sorted.{IsPermutation, IsStrictlySortedBy}
use Rattle.std.specs.Ordering.{nat_cmp}
use Rattle.std.specs.BTreeSet.{BTreeSet, contains}
use Rattle.std.proofs.lemmas.Bool.{cond-true, ne_eqb}
use Rattle.std.proofs.lemmas.Bool.Decides.{nat_tests}
use Rattle.std.proofs.lemmas.List.{take_all, length-map}
use Rattle.std.proofs.lemmas.List.Kept.{IsStrictlySortedBy-filter}
use Rattle.std.proofs.lemmas.List.Elements.{All-from_get_or, All-contains, Contains-get_or}
use Rattle.std.proofs.lemmas.List.Sorted.{Contains-permutation, IsPermutation-refl, IsPermutation-sym}
use Rattle.std.proofs.lemmas.Map.Keys.{below_from_sorted, IsDistinct-IsPermutation, IsDistinct-from_apart}
use Rattle.std.proofs.lemmas.Map.Views.{btree_set_contains_iff, list_any-from_Contains, Contains-from_any, exact_unsigned_eq}
use Rattle.std.proofs.lemmas.Map.Made.{length-le_from_is_member}
use Rattle.std.proofs.lemmas.Map.Steps.{length-le_from_distinct_below}
use Rattle.std.proofs.lemmas.Map.Lookups.{btree_set_from_contains, exact_unsigned}
use Rattle.std.specs.Cmp.{nat_cmp_total, nat_eq_equiv}
use Rattle.sg_words.proofs.Uses.{same_tests, from_map, into_map, from_filter, into_filter}
use Rattle.sg_coord.specs.declared.coord.Coord.{Coord}
use Rattle.sg_coord.specs.Bounds.{Bounds, volume}
use Rattle.sg_coord.specs.Coord.{Inside, is_inside, row_of, point_at}
use Rattle.sg_coord.specs.Laws.{InsideTest, PointInside, RowOfPoint, RowBelow, PointOfRow}
use Rattle.sg_layout.specs.Axes.{bounds_of_shape}
use Rattle.sg_layout.specs.Path.{offsets}
use Rattle.sg_layout.specs.PathLaws.{WholePathIsOffsets, CoordinateOfPath, PathIsSlot, SlotIsPath}
use Rattle.sg_layout.specs.Closure.{closure, is_in_closure}
use Rattle.sg_layout.specs.ClosureLaws.{ClosureIsTested}
use Rattle.sg_layout.specs.Slots.{IsSlot, coordinate_of}
use Rattle.sg_flat.specs.declared.state.FlatLayout.{FlatLayout}
use Rattle.sg_store.specs.StoreWords.{StoreWords}
use Rattle.sg_store.specs.Walks.{cell_along, cell_in}
use Rattle.sg_store.specs.WellFormed.{IsWellFormed}
use Rattle.sg_store.specs.StandsFor.{StandsFor}
use Rattle.sg_store.specs.StoreLaws.{CellsAreActive}
use Rattle.sg_elements.specs.steps.Levels.{is_led, level_at, row_along, walk_rows}
use Rattle.sg_elements.specs.steps.Ordered.{AreOrdered}
use Rattle.sg_elements.proofs.Lists.{AreApart, apart_map, filter-map}
use Rattle.sg_elements.proofs.Marks.{range_sorted}
use Rattle.sg_elements.proofs.Levels.{in_range, below_range, from_level, into_level, level_apart}

-- the laws of the crates below, for one store
pub record WalkLaws (store : StoreWords) : Type 0 where
  pub well : IsWellFormed store
  pub whole : WholePathIsOffsets store.shape
  pub coordinate : CoordinateOfPath store.shape
  pub is_slot : PathIsSlot store.shape
  pub is_path : SlotIsPath store.shape
  pub inside_test : InsideTest
  pub point_inside : PointInside
  pub row_of_point : RowOfPoint
  pub row_below : RowBelow
  pub point_of_row : PointOfRow
  pub tested : ClosureIsTested store.shape
  pub active : CellsAreActive store

-- ---- a path of the last level

last_slot : (store : StoreWords) (slot : List ℕ) → Contains (level_at store (length store.shape.nodes)) slot → IsSlot store.shape.nodes slot × (is_led store slot ≡ true)
last_slot store slot has =
    let found = from_level store (length store.shape.nodes) slot (omega arith) has in
    (subst (λ nodes. IsSlot nodes slot) (take_all (length store.shape.nodes) store.shape.nodes (omega arith)) found.0, found.1)

-- the coordinate of such a path
pub record IsWalked (store : StoreWords) (slot : List ℕ) (at : Coord) : Type 0 where
  pub inside : Inside (bounds_of_shape store.shape) at
  pub offsets_are : offsets store.shape.nodes at ≡ slot
  pub row : row_along store.shape slot ≡ row_of (bounds_of_shape store.shape) at

walked : (store : StoreWords) → WalkLaws store → (slot : List ℕ) → IsSlot store.shape.nodes slot → IsWalked store slot (coordinate_of store.shape slot)
walked store laws slot is =
    let path_is = laws.is_path laws.well.accepted slot is in
    record { inside = path_is.0; offsets_are = path_is.1; row = refl }

-- different paths have different row numbers
rows_apart : (store : StoreWords) → WalkLaws store → AreApart (walk_rows store)
rows_apart store laws =
    apart_map (row_along store.shape) (level_at store (length store.shape.nodes))
    (λ x y p q same.
    let e = bounds_of_shape store.shape in
    let one = walked store laws x (last_slot store x p).0 in
    let other = walked store laws y (last_slot store y q).0 in
    let at : coordinate_of store.shape x ≡ coordinate_of store.shape y =
    sym (laws.point_of_row e (coordinate_of store.shape x) one.inside) ∙ ap (point_at e) same ∙ laws.point_of_row e (coordinate_of store.shape y) other.inside in
    sym one.offsets_are ∙ ap (offsets store.shape.nodes) at ∙ other.offsets_are)
    (level_apart store (length store.shape.nodes))

-- ---- cells

cell_some : (store : StoreWords) → WalkLaws store → (at : Coord) → Inside (bounds_of_shape store.shape) at → is_led store (offsets store.shape.nodes at) ≡ true → is_some (cell_in store at) ≡ true
cell_some store laws at inside led = ap is_some (cond-true _ _ _ ((laws.inside_test (bounds_of_shape store.shape) at).1 inside)) ∙ led

cell_led : (store : StoreWords) (at : Coord) → is_some (cell_in store at) ≡ true → is_led store (offsets store.shape.nodes at) ≡ true
cell_led store at some = by_case (is_inside (bounds_of_shape store.shape) at) some where
  by_case : (inside : Bool) → is_some (cond inside (cell_along store (offsets store.shape.nodes at)) None) ≡ true → is_led store (offsets store.shape.nodes at) ≡ true
  by_case true some = some
  by_case false some = absurd (cc)

-- ---- the row numbers are those of the active coordinates

-- whether the point with a row number is in the closure of the active ones
abbrev is_active_row : StoreWords → FlatLayout → ℕ → Bool
is_active_row store flat row = is_in_closure store.shape flat.active (point_at (bounds_of_shape store.shape) row)

from_rows : (store : StoreWords) → WalkLaws store → (flat : FlatLayout) → StandsFor store flat → (row : ℕ) → Contains (walk_rows store) row
    → (row < volume (bounds_of_shape store.shape)) × (is_active_row store flat row ≡ true)
from_rows store laws flat stands row has =
    let e = bounds_of_shape store.shape in
    let found = from_map (row_along store.shape) (level_at store (length store.shape.nodes)) row has in
    let slot = found.0 in
    let last = last_slot store slot found.1 in
    let at = coordinate_of store.shape slot in
    let is = walked store laws slot last.0 in
    let led : is_led store (offsets store.shape.nodes at) ≡ true = ap (is_led store) is.offsets_are ∙ last.1 in
    let active : Contains flat.active at = (laws.active laws.well flat stands at).0 (cell_some store laws at is.inside led) in
    let closed : Contains (closure store.shape flat.active) at = let P : List Coord → Type 0 = λ list. Contains list at in subst P stands.is_flat.closed active in
    let test : is_in_closure store.shape flat.active at ≡ true = (laws.tested flat.active at).0 closed in
    let same : point_at e row ≡ at = ap (point_at e) (sym found.2) ∙ laws.point_of_row e at is.inside in
    (let P : ℕ → Type 0 = λ k. k < volume e in subst P found.2 (laws.row_below e at is.inside), ap (is_in_closure store.shape flat.active) same ∙ test)

into_rows : (store : StoreWords) → WalkLaws store → (flat : FlatLayout) → StandsFor store flat → (row : ℕ) → row < volume (bounds_of_shape store.shape) → is_active_row store flat row ≡ true → Contains (walk_rows store) row
into_rows store laws flat stands row below test =
    let e = bounds_of_shape store.shape in
    let nodes = store.shape.nodes in
    let at = point_at e row in
    let inside = laws.point_inside e row below in
    let closed : Contains (closure store.shape flat.active) at = (laws.tested flat.active at).1 test in
    let active : Contains flat.active at = let P : List Coord → Type 0 = λ list. Contains list at in subst P (sym stands.is_flat.closed) closed in
    let led = cell_led store at ((laws.active laws.well flat stands at).1 active) in
    let slot : IsSlot (take (length nodes) nodes) (offsets nodes at) = let P : List ℕ → Type 0 = λ list. IsSlot (take (length nodes) nodes) list in subst P (laws.whole at) (laws.is_slot laws.well.accepted at (length nodes)) in
    let there = into_level store (length nodes) (offsets nodes at) (omega arith) slot led in
    let same : row_along store.shape (offsets nodes at) ≡ row = ap (row_of e) (laws.coordinate at inside) ∙ laws.row_of_point e row below in
    let P : ℕ → Type 0 = λ k. Contains (walk_rows store) k in
    subst P same (into_map (row_along store.shape) (level_at store (length nodes)) (offsets nodes at) there)

-- ---- in order

pub rows_below : (store : StoreWords) → WalkLaws store → (rows : List ℕ) → IsPermutation (walk_rows store) rows → All (λ row. row < volume (bounds_of_shape store.shape)) rows
rows_below store laws rows mixed =
    let e = bounds_of_shape store.shape in
    All-from_get_or (λ row. row < volume e) rows 0 (λ i below.
    let row = get_or rows i 0 in
    let found = from_map (row_along store.shape) (level_at store (length store.shape.nodes)) row (Contains-permutation rows (walk_rows store) row (IsPermutation-sym (walk_rows store) rows mixed) (Contains-get_or rows i 0 below)) in
    let is = walked store laws found.0 (last_slot store found.0 found.1).0 in
    let P : ℕ → Type 0 = λ k. k < volume e in
    subst P found.2 (laws.row_below e (coordinate_of store.shape found.0) is.inside))

walk_distinct : (store : StoreWords) → WalkLaws store → IsDistinct eqb (walk_rows store)
walk_distinct store laws = IsDistinct-from_apart eqb (walk_rows store) (λ i j d less below. ne_eqb _ _ (rows_apart store laws i j d less below))

pub rows_distinct : (store : StoreWords) → WalkLaws store → (rows : List ℕ) → IsPermutation (walk_rows store) rows → IsDistinct eqb rows
rows_distinct store laws rows mixed = IsDistinct-IsPermutation eqb (λ x y. grind (arith, nat_tests)) (walk_rows store) rows mixed (walk_distinct store laws)

-- they are no more than the points
pub rows_few : (store : StoreWords) → WalkLaws store → length (walk_rows store) ≤ volume (bounds_of_shape store.shape)
rows_few store laws =
    let below = rows_below store laws (walk_rows store) (IsPermutation-refl (walk_rows store)) in
    length-le_from_distinct_below (walk_rows store) (volume (bounds_of_shape store.shape)) (walk_distinct store laws)
    (λ row has. All-contains (λ (k : ℕ). k < volume (bounds_of_shape store.shape)) (walk_rows store) row below (Contains-from_any {eq = eqb} exact_unsigned_eq row (walk_rows store) has))

-- numbers in order are those below another that pass a test, where they are the same numbers
rows_that_pass : (size : ℕ) (test : ℕ → Bool) (rows : List ℕ) → IsStrictlySortedBy nat_cmp rows → ((row : ℕ) → Contains rows row → (row < size) × (test row ≡ true)) → ((row : ℕ) → row < size → test row ≡ true → Contains rows row)
    → rows ≡ filter test (range_with_len 0 size)
rows_that_pass size test rows sorted from into =
    let passing = filter test (range_with_len 0 size) in
    let set : BTreeSet ℕ = record { keys = rows } in
    let other : BTreeSet ℕ = record { keys = passing } in
    btree_set_from_contains nat_cmp_total set other sorted (IsStrictlySortedBy-filter nat_cmp test (range_with_len 0 size) (range_sorted size))
    (λ row. same_tests (contains nat_cmp set row) (contains nat_cmp other row)
    (λ here.
    let found = from row ((btree_set_contains_iff nat_cmp_total exact_unsigned set row).0 here) in
    (btree_set_contains_iff nat_cmp_total exact_unsigned other row).1 (into_filter test (range_with_len 0 size) row (in_range size row found.0) found.1))
    (λ there.
    let kept = from_filter test (range_with_len 0 size) row ((btree_set_contains_iff nat_cmp_total exact_unsigned other row).0 there) in
    (btree_set_contains_iff nat_cmp_total exact_unsigned set row).1 (into row (below_range size row kept.0) kept.1)))
    exact_unsigned

-- the points with the row numbers in order are the active list
pub rows_are_active : (store : StoreWords) → WalkLaws store → (rows ordered : List ℕ) → IsPermutation (walk_rows store) rows → AreOrdered rows ordered → (flat : FlatLayout) → StandsFor store flat
    → map (point_at (bounds_of_shape store.shape)) ordered ≡ flat.active
rows_are_active store laws rows ordered mixed are flat stands =
    let e = bounds_of_shape store.shape in
    ap (map (point_at e))
    (rows_that_pass (volume e) (is_active_row store flat) ordered are.rise
    (λ row has. from_rows store laws flat stands row (Contains-permutation rows (walk_rows store) row (IsPermutation-sym (walk_rows store) rows mixed) (are.from row has)))
    (λ row below test. are.into row (Contains-permutation (walk_rows store) rows row mixed (into_rows store laws flat stands row below test))))
    ∙ sym (filter-map (point_at e) (is_in_closure store.shape flat.active) (range_with_len 0 (volume e)))
    ∙ sym stands.is_flat.closed

-- ---- as many as the active ones

-- numbers each once, all among others
fewer : (xs ys : List ℕ) → IsDistinct eqb xs → ((x : ℕ) → Contains xs x → Contains ys x) → length xs ≤ length ys
fewer xs ys distinct into =
    length-le_from_is_member {eq = eqb} nat_eq_equiv xs ys distinct
    (λ x has. list_any-from_Contains {eq = eqb} nat_eq_equiv x ys (into x (Contains-from_any {eq = eqb} exact_unsigned_eq x xs has)))

passing_distinct : (size : ℕ) (test : ℕ → Bool) → IsDistinct eqb (filter test (range_with_len 0 size))
passing_distinct size test =
    let passing = filter test (range_with_len 0 size) in
    let sorted = IsStrictlySortedBy-filter nat_cmp test (range_with_len 0 size) (range_sorted size) in
    IsDistinct-from_apart eqb passing (λ i j d less below.
    let low = below_from_sorted passing i j d sorted less below in
    ne_eqb _ _ (λ same. omega (arith, low, same)))

pub rows_count : (store : StoreWords) → WalkLaws store → (flat : FlatLayout) → StandsFor store flat → length (walk_rows store) ≡ length flat.active
rows_count store laws flat stands =
    let e = bounds_of_shape store.shape in
    let size = volume (bounds_of_shape store.shape) in
    let passing = filter (is_active_row store flat) (range_with_len 0 size) in
    let active : flat.active ≡ map (point_at e) passing = stands.is_flat.closed ∙ filter-map (point_at e) (is_in_closure store.shape flat.active) (range_with_len 0 size) in
    let some = fewer (walk_rows store) passing (walk_distinct store laws)
    (λ row has. let found = from_rows store laws flat stands row has in into_filter (is_active_row store flat) (range_with_len 0 size) row (in_range size row found.0) found.1) in
    let all = fewer passing (walk_rows store) (passing_distinct size (is_active_row store flat))
    (λ row has. let kept = from_filter (is_active_row store flat) (range_with_len 0 size) row has in into_rows store laws flat stands row (below_range size row kept.0) kept.1) in
    let long : length (walk_rows store) ≡ length passing = omega (arith, some, all) in
    long ∙ sym (length-map passing (point_at e)) ∙ sym (ap length active)

pub then_count : (store : StoreWords) {E : Type 0} (r : Result ℕ E) → IfOk r (λ count. count ≡ length (walk_rows store))
    → ((flat : FlatLayout) → StandsFor store flat → length (walk_rows store) ≡ length flat.active) → IfOk r (λ count. (flat : FlatLayout) → StandsFor store flat → count ≡ length flat.active)
then_count store (Ok count) is then = λ flat stands. is ∙ then flat stands
then_count store (Err f) is then = tt

-- what is answered is the active list, where the points are
pub then_active : (store : StoreWords) {E : Type 0} (r : Result (List Coord) E) (rows : List ℕ) (e : Bounds) → IfOk r (λ coords. coords ≡ map (point_at e) rows)
    → ((flat : FlatLayout) → StandsFor store flat → map (point_at e) rows ≡ flat.active) → IfOk r (λ coords. (flat : FlatLayout) → StandsFor store flat → coords ≡ flat.active)
then_active store (Ok coords) rows e are then = λ flat stands. are ∙ then flat stands
then_active store (Err f) rows e are then = tt
