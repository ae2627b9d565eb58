-- The rows that have cells, once each point was asked for, are those of the active coordinates, and the cells are theirs.
use Rattle.std.proofs.Common.{◌≡◌, ℕ, zero, suc, ◌+◌, ◌<◌, ◌++◌, Bool, true, false, cond, List, [], ◌∷◌, map, filter, Option, Some, None, is_some, refl, sym, ap, ap₂, ◌∙◌, subst, arith, append_assoc}
use Rattle.std.specs.List.{Contains, range_with_len}
use Rattle.std.proofs.lemmas.List.{map-append}
use Rattle.std.proofs.lemmas.List.FromFn.{filter_of_map_range_with_len_more}
use Rattle.sg_words.proofs.Uses.{same_tests}
use Rattle.sg_coord.specs.declared.coord.Coord.{Coord}
use Rattle.sg_coord.specs.Bounds.{volume}
use Rattle.sg_coord.specs.Coord.{point_at, row_of}
use Rattle.sg_coord.specs.Laws.{RowOfPoint}
use Rattle.sg_layout.specs.Axes.{bounds_of_shape}
use Rattle.sg_layout.specs.Closure.{closure, is_in_closure}
use Rattle.sg_layout.specs.ClosureLaws.{ClosureIsTested}
use Rattle.sg_flat.specs.declared.state.FlatLayout.{FlatLayout}
use Rattle.sg_store.specs.StandsFor.{StandsFor}
use Rattle.sg_store.specs.StoreLaws.{CellsAreActive}
use Rattle.sg_store.specs.StoreWords.{StoreWords}
use Rattle.sg_store.specs.Walks.{cell_in}
use Rattle.sg_store.specs.WellFormed.{IsWellFormed}
use Rattle.sg_snapshot.specs.Numbers.{bytes_of}
use Rattle.sg_snapshot.specs.steps.Asking.{row_if, cell_if, rows_with, cells_with}
use Rattle.sg_snapshot.proofs.Writings.{bytes_append}

-- the cell of the point with a row number
abbrev pub cell_at : StoreWords → ℕ → Option ℕ
cell_at store row = cell_in store (point_at (bounds_of_shape store.shape) row)

abbrev some_cell : ℕ → Option ℕ
some_cell cell = Some cell

-- ---- one point more
pub rows_more : (cell_of : ℕ → Option ℕ) (row : ℕ) (found : Option ℕ) (old now later : List ℕ) → found ≡ cell_of row → now ≡ old ++ bytes_of (rows_with cell_of row) → later ≡ now ++ bytes_of (row_if found row)
    → later ≡ old ++ bytes_of (rows_with cell_of (row + 1))
rows_more cell_of row found old now later is so_far pushed =
    let before = rows_with cell_of row in
    pushed
    ∙ ap₂ (λ (l : List ℕ) (o : Option ℕ). l ++ bytes_of (row_if o row)) so_far is
    ∙ append_assoc old (bytes_of before) (bytes_of (row_if (cell_of row) row))
    ∙ ap (λ (l : List ℕ). old ++ l) (sym (bytes_append before (row_if (cell_of row) row)))
    ∙ ap (λ (n : ℕ). old ++ bytes_of (rows_with cell_of n)) (let e : suc row ≡ row + 1 = omega arith in e)

pub cells_more : (cell_of : ℕ → Option ℕ) (row : ℕ) (found : Option ℕ) (now later : List ℕ) → found ≡ cell_of row → now ≡ cells_with cell_of row → later ≡ now ++ cell_if found → later ≡ cells_with cell_of (row + 1)
cells_more cell_of row found now later is so_far pushed =
    pushed
    ∙ ap₂ (λ (l : List ℕ) (o : Option ℕ). l ++ cell_if o) so_far is
    ∙ ap (cells_with cell_of) (let e : suc row ≡ row + 1 = omega arith in e)

-- ---- all points
-- of points that pass a test where they have cells
passing : {X : Type 0} (test : X → Bool) (at : ℕ → X) (cell_of : ℕ → Option ℕ) (many : ℕ) → ((row : ℕ) → row < many → test (at row) ≡ is_some (cell_of row))
    → filter test (map at (range_with_len 0 many)) ≡ map at (rows_with cell_of many)
passing test at cell_of zero same = refl
passing {X} test at cell_of (suc row) same =
    ap (λ (n : ℕ). filter test (map at (range_with_len 0 n))) (let e : suc row ≡ row + 1 = omega arith in e)
    ∙ filter_of_map_range_with_len_more test at 0 row row (omega arith)
    ∙ ap₂ (λ (l r : List X). l ++ r) (passing test at cell_of row (λ k below. same k (omega arith))) (last (test (at row)) (cell_of row) (same row (omega arith)))
    ∙ sym (map-append at (rows_with cell_of row) (row_if (cell_of row) row))
  where
    last : (passes : Bool) (found : Option ℕ) → passes ≡ is_some found → cond passes (at row ∷ []) [] ≡ map at (row_if found row)
    last true (Some cell) e = refl
    last false None e = refl
    last true None e = absurd (cc)
    last false (Some cell) e = absurd (cc)

rows_back : {X : Type 0} (at : ℕ → X) (row_at : X → ℕ) (cell_of : ℕ → Option ℕ) (many : ℕ) → ((row : ℕ) → row < many → row_at (at row) ≡ row) → map row_at (map at (rows_with cell_of many)) ≡ rows_with cell_of many
rows_back at row_at cell_of zero same = refl
rows_back {X} at row_at cell_of (suc row) same =
    ap (map row_at) (map-append at (rows_with cell_of row) (row_if (cell_of row) row))
    ∙ map-append row_at (map at (rows_with cell_of row)) (map at (row_if (cell_of row) row))
    ∙ ap₂ (λ (l r : List ℕ). l ++ r) (rows_back at row_at cell_of row (λ k below. same k (omega arith))) (last (cell_of row))
  where
    last : (found : Option ℕ) → map row_at (map at (row_if found row)) ≡ row_if found row
    last None = refl
    last (Some cell) = ap (λ (k : ℕ). k ∷ []) (same row (omega arith))

cells_back : {X : Type 0} (at : ℕ → X) (cell_in_it : X → Option ℕ) (many : ℕ) → map cell_in_it (map at (rows_with (λ row. cell_in_it (at row)) many)) ≡ map some_cell (cells_with (λ row. cell_in_it (at row)) many)
cells_back at cell_in_it zero = refl
cells_back {X} at cell_in_it (suc row) =
    let cell_of : ℕ → Option ℕ = λ k. cell_in_it (at k) in
    ap (map cell_in_it) (map-append at (rows_with cell_of row) (row_if (cell_of row) row))
    ∙ map-append cell_in_it (map at (rows_with cell_of row)) (map at (row_if (cell_of row) row))
    ∙ ap₂ (λ (l r : List (Option ℕ)). l ++ r) (cells_back at cell_in_it row) (last (cell_of row) refl)
    ∙ sym (map-append some_cell (cells_with cell_of row) (cell_if (cell_of row)))
  where
    last : (found : Option ℕ) → cell_in_it (at row) ≡ found → map cell_in_it (map at (row_if found row)) ≡ map some_cell (cell_if found)
    last None is = refl
    last (Some cell) is = ap (λ (o : Option ℕ). o ∷ []) is

-- ---- the active coordinates
pub record AskLaws (store : StoreWords) : Type 0 where
  pub well : IsWellFormed store
  pub row_of_point : RowOfPoint
  pub tested : ClosureIsTested store.shape
  pub active : CellsAreActive store

actives_are : (store : StoreWords) → AskLaws store → (flat : FlatLayout) → StandsFor store flat
    → flat.active ≡ map (point_at (bounds_of_shape store.shape)) (rows_with (cell_at store) (volume (bounds_of_shape store.shape)))
actives_are store laws flat stands =
    let b = bounds_of_shape store.shape in
    let closed : flat.active ≡ closure store.shape flat.active = stands.is_flat.closed in
    closed
    ∙ passing (is_in_closure store.shape flat.active) (point_at b) (cell_at store) (volume b) (λ row below.
    let at = point_at b row in
    same_tests (is_in_closure store.shape flat.active at) (is_some (cell_in store at))
    (λ test. (laws.active laws.well flat stands at).1 (subst (λ (l : List Coord). Contains l at) (sym closed) ((laws.tested flat.active at).1 test)))
    (λ some. (laws.tested flat.active at).0 (subst (λ (l : List Coord). Contains l at) closed ((laws.active laws.well flat stands at).0 some))))

pub asked_rows : (store : StoreWords) → AskLaws store → (flat : FlatLayout) → StandsFor store flat
    → rows_with (cell_at store) (volume (bounds_of_shape store.shape)) ≡ map (row_of (bounds_of_shape store.shape)) flat.active
asked_rows store laws flat stands =
    let b = bounds_of_shape store.shape in
    sym (ap (map (row_of b)) (actives_are store laws flat stands) ∙ rows_back (point_at b) (row_of b) (cell_at store) (volume b) (laws.row_of_point b))

pub asked_cells : (store : StoreWords) → AskLaws store → (flat : FlatLayout) → StandsFor store flat
    → map (cell_in store) flat.active ≡ map (λ (cell : ℕ). let out : Option ℕ = Some cell in out) (cells_with (cell_at store) (volume (bounds_of_shape store.shape)))
asked_cells store laws flat stands =
    let b = bounds_of_shape store.shape in
    ap (map (cell_in store)) (actives_are store laws flat stands) ∙ cells_back (point_at b) (cell_in store) (volume b)
