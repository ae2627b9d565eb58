-- Rows of which each has its neighbours are those of a closure, and the other way round.
use Rattle.std.proofs.Common.{◌≡◌, ℕ, zero, suc, ◌+◌, ◌-◌, ◌<◌, ◌≤◌, inl, inr, pos, Bool, true, false, ◌&&◌, eqb, ltb, List, [], ◌∷◌, map, length, get_or, drop, Result, Ok, Err, refl, sym, ap, ap₂, ◌∙◌, subst, arith}
use Rattle.std.specs.Prelude.{◌↔◌, All, Contains, filter}
use Rattle.std.specs.List.{range_with_len}
use Rattle.std.specs.List.Sorted.{IsStrictlyIncreasing, IsStrictlySortedBy, IsBinarySearchResult}
use Rattle.std.specs.Result.{is_ok}
use Rattle.std.specs.Ordering.{nat_cmp}
use Rattle.std.specs.Cmp.{nat_cmp_total}
use Rattle.std.specs.BTreeSet.{BTreeSet, contains}
use Rattle.std.proofs.lemmas.Bool.{both_ways, cases_lt, cases_Bool, cond-true, cond-false, eqb-true, eq-eqb, lt-ltb, ltb-true, and_from, and_parts}
use Rattle.std.proofs.lemmas.List.{length-map}
use Rattle.std.proofs.lemmas.List.Elements.{All-head, All-tail, All-map, All-filter, All-contains, All-contains_itself, All-weaker}
use Rattle.std.proofs.lemmas.List.Folds.{Any-from_list_any, list_any-from_Any}
use Rattle.std.proofs.lemmas.List.FromFn.{length-range_with_len}
use Rattle.std.proofs.lemmas.List.Sorted.{searched}
use Rattle.std.proofs.lemmas.Map.Keys.{sorted_from_strictly_increasing, below_from_sorted}
use Rattle.std.proofs.lemmas.Map.Lookups.{exact_unsigned}
use Rattle.std.proofs.lemmas.Map.Views.{btree_set_contains_iff}
use Rattle.sg_words.proofs.Uses.{same_tests, into_map, from_map}
use Rattle.sg_coord.specs.declared.coord.Coord.{Coord}
use Rattle.sg_coord.specs.Bounds.{Bounds, volume}
use Rattle.sg_coord.specs.Coord.{Inside, count_of, row_of, point_at}
use Rattle.sg_coord.specs.Laws.{InsideTest, PointInside, PointOfRow, RowOfPoint, RowBelow}
use Rattle.sg_layout.specs.declared.shape.NodeShape.{NodeShape}
use Rattle.sg_layout.specs.declared.shape.Shape.{Shape}
use Rattle.sg_layout.specs.Axes.{bounds_of_shape}
use Rattle.sg_layout.specs.Accepted.{IsAccepted}
use Rattle.sg_layout.specs.Closure.{last_sparse, points, closure}
use Rattle.sg_flat.specs.declared.blocks.Blocks.{Blocks}
use Rattle.sg_flat.specs.Closed.{AreClosed}
use Rattle.sg_flat.specs.steps.Blocks.{bounds_over, nodes_above, is_whole, corner, within, block_number, row_in_block, live_points, is_reached, is_row_reached, all_of, each_of, number_in, row_in_blocks, reach_in, point_in, reaches_row, HasPlace, HasBefore, HasBehind, HasNeighbours}
use Rattle.sg_flat.proofs.Cuts.{cut_of, within_inside, is_further}
use Rattle.sg_flat.proofs.Reaches.{is_reached-any, same_row}
use Rattle.sg_flat.proofs.Actives.{rows_below, passing, passing_sorted, passing_has, keys_are, closure_of_dense, closure_of_sparse}

-- the laws of coordinates that the lemmas stand on
pub record PointLaws : Type 0 where
  pub inside_test : InsideTest
  pub point_inside : PointInside
  pub point_of_row : PointOfRow
  pub row_of_point : RowOfPoint
  pub row_below : RowBelow

abbrev pub AreBelow : ℕ → List ℕ → Type 0
AreBelow size rows = All (λ row. row < size) rows

-- ---- places in blocks
place_below : PointLaws → (blocks : Blocks) (row : ℕ) → row < volume (all_of blocks) → row_in_blocks blocks (point_in blocks row) < volume (each_of blocks)
place_below laws blocks row below =
    laws.row_below (each_of blocks) (within (each_of blocks) (point_in blocks row))
    (within_inside (all_of blocks) (each_of blocks) (point_in blocks row) (cut_of blocks) (laws.point_inside (all_of blocks) row below))

reach_most : (whole : Bool) (block : Bounds) (at : Coord) → row_in_block block at < volume block → live_points whole block at ≤ volume block
reach_most true block at below = omega arith
reach_most false block at below = below

reach_some : (whole : Bool) (block : Bounds) (at : Coord) → row_in_block block at < volume block → row_in_block block at < live_points whole block at
reach_some true block at below = below
reach_some false block at below = omega arith

reach_same : (whole : Bool) (block : Bounds) (x y : Coord) → suc (row_in_block block x) < live_points whole block x → live_points whole block y ≡ live_points whole block x
reach_same true block x y more = refl
reach_same false block x y more = absurd (omega arith)

-- in the block of a coordinate inside there is a point at each place
there_is : PointLaws → (blocks : Blocks) (at : Coord) (place : ℕ) → Inside (all_of blocks) at → place < volume (each_of blocks) → (row : ℕ) × (row < volume (all_of blocks)) × (number_in blocks (point_in blocks row) ≡ number_in blocks at) × (row_in_blocks blocks (point_in blocks row) ≡ place)
there_is laws blocks at place inside below =
    let all = all_of blocks in
    let block = each_of blocks in
    let first = corner block at in
    let by = point_at block place in
    let point : Coord = record { n = at.n; a = pos (count_of first.a + count_of by.a); b = pos (count_of first.b + count_of by.b); c = pos (count_of first.c + count_of by.c) } in
    let further = is_further all block at first by point (count_of first.a) (count_of by.a) (count_of first.b) (count_of by.b) (count_of first.c) (count_of by.c)
    (cut_of blocks) inside (laws.point_inside block place below) refl (refl, refl, refl) (refl, refl, refl) refl in
    let back : point_at all (row_of all point) ≡ point = laws.point_of_row all point further.inside in (
      row_of all point,
      laws.row_below all point further.inside,
      ap (block_number all block) back ∙ ap (row_of all) further.same_block,
      ap (row_in_block block) back ∙ ap (row_of block) further.place ∙ laws.row_of_point block place below,
    )

-- ---- what a list has with each of its rows
-- all that its point makes live
abbrev pub AreFull : (blocks : Blocks) (rows : List ℕ) → Type 0
AreFull blocks rows = (row other : ℕ) → Contains rows row → other < volume (all_of blocks) → number_in blocks (point_in blocks other) ≡ number_in blocks (point_in blocks row) → row_in_blocks blocks (point_in blocks other) < reach_in blocks (point_in blocks row) → Contains rows other

-- back along a block
down : (blocks : Blocks) (rows : List ℕ) → All (HasNeighbours blocks rows) rows → (steps place row : ℕ) → Contains rows row → row_in_blocks blocks (point_in blocks row) ≡ place + steps → HasPlace blocks rows (point_in blocks row) place
down blocks rows all zero place row has is = (row, has, refl, omega arith)
down blocks rows all (suc steps) place row has is =
    let next = (All-contains (HasNeighbours blocks rows) rows row all has).before (place + steps) (omega arith) in
    let found = down blocks rows all steps place next.0 next.1 next.3 in
    (found.0, found.1, found.2 ∙ next.2, found.3)

-- forth along it
up : (blocks : Blocks) (rows : List ℕ) → All (HasNeighbours blocks rows) rows → (steps place row : ℕ) → Contains rows row → row_in_blocks blocks (point_in blocks row) + steps ≡ place → place < reach_in blocks (point_in blocks row) → HasPlace blocks rows (point_in blocks row) place
up blocks rows all zero place row has is reached = (row, has, refl, omega arith)
up blocks rows all (suc steps) place row has is reached =
    let more : suc (row_in_blocks blocks (point_in blocks row)) < reach_in blocks (point_in blocks row) = omega arith in
    let next = (All-contains (HasNeighbours blocks rows) rows row all has).behind more in
    let same : reach_in blocks (point_in blocks next.0) ≡ reach_in blocks (point_in blocks row) = reach_same blocks.whole (each_of blocks) (point_in blocks row) (point_in blocks next.0) more in
    let at : row_in_blocks blocks (point_in blocks next.0) ≡ suc (row_in_blocks blocks (point_in blocks row)) = next.3 in
    let found = up blocks rows all steps place next.0 next.1 (omega arith) (omega arith) in
    (found.0, found.1, found.2 ∙ next.2, found.3)

full_from_neighbours : PointLaws → (blocks : Blocks) (rows : List ℕ) → AreBelow (volume (all_of blocks)) rows → All (HasNeighbours blocks rows) rows → AreFull blocks rows
full_from_neighbours laws blocks rows below all row other has other_below same reached =
    let place = row_in_blocks blocks (point_in blocks other) in
    let here = row_in_blocks blocks (point_in blocks row) in
    let found : HasPlace blocks rows (point_in blocks row) place = elim (cases_lt place here) [
      | inl before ↦ down blocks rows all (here - place) place row has (omega arith)
      | inr behind ↦ up blocks rows all (place - here) place row has (omega arith) reached
    ] in
    let is : other ≡ found.0 = same_row (all_of blocks) (each_of blocks) other found.0 laws.point_of_row laws.row_of_point laws.point_inside (cut_of blocks) other_below
    (All-contains (λ row. row < volume (all_of blocks)) rows found.0 below found.1) (same ∙ sym found.2) (sym found.3) in
    subst (λ r. Contains rows r) (sym is) found.1

neighbours_from_full : PointLaws → (blocks : Blocks) (rows : List ℕ) → AreBelow (volume (all_of blocks)) rows → AreFull blocks rows → All (HasNeighbours blocks rows) rows
neighbours_from_full laws blocks rows below full =
    All-weaker (Contains rows) (HasNeighbours blocks rows) each rows (All-contains_itself rows)
  where
    each : (row : ℕ) → Contains rows row → HasNeighbours blocks rows row
    each row has =
        let row_below : row < volume (all_of blocks) = All-contains (λ r. r < volume (all_of blocks)) rows row below has in
        let inside = laws.point_inside (all_of blocks) row row_below in
        let small = place_below laws blocks row row_below in
        let most = reach_most blocks.whole (each_of blocks) (point_in blocks row) small in
        let some = reach_some blocks.whole (each_of blocks) (point_in blocks row) small in
        record {
          before = λ place is.
              let found = there_is laws blocks (point_in blocks row) place inside (omega arith) in
              let at : row_in_blocks blocks (point_in blocks found.0) ≡ place = found.3 in
              (found.0, full row found.0 has found.1 found.2 (omega arith), found.2, found.3);
          behind = λ more.
              let found = there_is laws blocks (point_in blocks row) (suc (row_in_blocks blocks (point_in blocks row))) inside (omega arith) in
              let at : row_in_blocks blocks (point_in blocks found.0) ≡ suc (row_in_blocks blocks (point_in blocks row)) = found.3 in
              (found.0, full row found.0 has found.1 found.2 (omega arith), found.2, found.3);
        }

-- ---- the same by the test of what a list reaches
abbrev set_of : List ℕ → BTreeSet ℕ
set_of rows = record { keys = rows }

has_row : (rows : List ℕ) (row : ℕ) → Contains rows row → contains nat_cmp (set_of rows) row ≡ true
has_row rows row has = (btree_set_contains_iff nat_cmp_total exact_unsigned (set_of rows) row).1 has

row_had : (rows : List ℕ) (row : ℕ) → contains nat_cmp (set_of rows) row ≡ true → Contains rows row
row_had rows row has = (btree_set_contains_iff nat_cmp_total exact_unsigned (set_of rows) row).0 has

abbrev reaches : Blocks → Coord → Coord → Bool
reaches blocks at w = eqb (number_in blocks w) (number_in blocks at) && ltb (row_in_blocks blocks at) (reach_in blocks w)

reaches_it : (blocks : Blocks) (rows : List ℕ) (row other : ℕ) → Contains rows row → other < volume (all_of blocks) → number_in blocks (point_in blocks other) ≡ number_in blocks (point_in blocks row) → row_in_blocks blocks (point_in blocks other) < reach_in blocks (point_in blocks row) → reaches_row blocks (map (point_in blocks) rows) other ≡ true
reaches_it blocks rows row other has below same reached =
    let found = into_map (point_in blocks) rows row has in
    and_from (ltb other (volume (all_of blocks))) (is_reached (all_of blocks) (each_of blocks) blocks.whole (map (point_in blocks) rows) (point_in blocks other)) (lt-ltb other (volume (all_of blocks)) below)
    (is_reached-any (all_of blocks) (each_of blocks) blocks.whole (map (point_in blocks) rows) (point_in blocks other)
    ∙ list_any-from_Any (reaches blocks (point_in blocks other)) (map (point_in blocks) rows) (
      found.0,
      point_in blocks row,
      found.1,
      found.2,
      and_from (eqb (number_in blocks (point_in blocks row)) (number_in blocks (point_in blocks other))) (ltb (row_in_blocks blocks (point_in blocks other)) (reach_in blocks (point_in blocks row)))
          (eq-eqb (number_in blocks (point_in blocks row)) (number_in blocks (point_in blocks other)) (sym same))
          (lt-ltb (row_in_blocks blocks (point_in blocks other)) (reach_in blocks (point_in blocks row)) reached),
    ))

reached_are : PointLaws → (blocks : Blocks) (rows : List ℕ) → AreBelow (volume (all_of blocks)) rows → AreFull blocks rows → (row : ℕ) → contains nat_cmp (set_of rows) row ≡ reaches_row blocks (map (point_in blocks) rows) row
reached_are laws blocks rows below full row = same_tests (contains nat_cmp (set_of rows) row) (reaches_row blocks (map (point_in blocks) rows) row) there back
  where
    there : contains nat_cmp (set_of rows) row ≡ true → reaches_row blocks (map (point_in blocks) rows) row ≡ true
    there found =
        let has = row_had rows row found in
        let row_below : row < volume (all_of blocks) = All-contains (λ r. r < volume (all_of blocks)) rows row below has in
        reaches_it blocks rows row row has row_below refl (reach_some blocks.whole (each_of blocks) (point_in blocks row) (place_below laws blocks row row_below))

    back : reaches_row blocks (map (point_in blocks) rows) row ≡ true → contains nat_cmp (set_of rows) row ≡ true
    back found =
        let parts = and_parts (ltb row (volume (all_of blocks))) (is_reached (all_of blocks) (each_of blocks) blocks.whole (map (point_in blocks) rows) (point_in blocks row)) found in
        let any = Any-from_list_any (reaches blocks (point_in blocks row)) (map (point_in blocks) rows)
        (sym (is_reached-any (all_of blocks) (each_of blocks) blocks.whole (map (point_in blocks) rows) (point_in blocks row)) ∙ parts.1) in
        let by = from_map (point_in blocks) rows any.1 (any.0, any.2, any.3) in
        let tested : reaches blocks (point_in blocks row) (point_in blocks by.0) ≡ true = ap (reaches blocks (point_in blocks row)) by.2 ∙ any.4 in
        let tests = and_parts (eqb (number_in blocks (point_in blocks by.0)) (number_in blocks (point_in blocks row))) (ltb (row_in_blocks blocks (point_in blocks row)) (reach_in blocks (point_in blocks by.0))) tested in
        has_row rows row (full by.0 row by.1 (ltb-true row (volume (all_of blocks)) parts.0)
        (sym (eqb-true (number_in blocks (point_in blocks by.0)) (number_in blocks (point_in blocks row)) tests.0))
        (ltb-true (row_in_blocks blocks (point_in blocks row)) (reach_in blocks (point_in blocks by.0)) tests.1))

full_from_reached : (blocks : Blocks) (rows : List ℕ) → ((row : ℕ) → contains nat_cmp (set_of rows) row ≡ reaches_row blocks (map (point_in blocks) rows) row) → AreFull blocks rows
full_from_reached blocks rows are row other has below same reached = row_had rows other (are other ∙ reaches_it blocks rows row other has below same reached)

-- ---- closures
-- rows come back from their points
rows_back : PointLaws → (b : Bounds) (rows : List ℕ) → AreBelow (volume b) rows → map (row_of b) (map (point_at b) rows) ≡ rows
rows_back laws b [] below = refl
rows_back laws b (row ∷ rows) below =
    ap₂ (λ (x : ℕ) (xs : List ℕ). x ∷ xs) (laws.row_of_point b row (All-head (λ r. r < volume b) row rows below)) (rows_back laws b rows (All-tail (λ r. r < volume b) row rows below))

points_inside : PointLaws → (b : Bounds) (rows : List ℕ) → AreBelow (volume b) rows → All (Inside b) (map (point_at b) rows)
points_inside laws b rows below = All-map (Inside b) (point_at b) rows (All-weaker (λ r. r < volume b) (λ r. Inside b (point_at b r)) (laws.point_inside b) rows below)

pub point_laws : InsideTest → PointInside → PointOfRow → RowOfPoint → RowBelow → PointLaws
point_laws test inside point row below = record { inside_test = test; point_inside = inside; point_of_row = point; row_of_point = row; row_below = below }

-- ---- the neighbours of a row, by its point, its place and how many points it makes live
pub before_at : (blocks : Blocks) (rows : List ℕ) (at other : Coord) (place other_place : ℕ) → at ≡ other → place ≡ other_place → HasBefore blocks rows at place → HasBefore blocks rows other other_place
before_at blocks rows at other place other_place same same_place has =
    subst (λ (x : Coord). HasBefore blocks rows x other_place) same (subst (λ (p : ℕ). HasBefore blocks rows at p) same_place has)

pub behind_at : (blocks : Blocks) (rows : List ℕ) (at other : Coord) (place other_place reach other_reach : ℕ) → at ≡ other → place ≡ other_place → reach ≡ other_reach → HasBehind blocks rows at place reach → HasBehind blocks rows other other_place other_reach
behind_at blocks rows at other place other_place reach other_reach same same_place same_reach has =
    subst (λ (x : Coord). HasBehind blocks rows x other_place other_reach) same
    (subst (λ (p : ℕ). HasBehind blocks rows at p other_reach) same_place
    (subst (λ (r : ℕ). HasBehind blocks rows at place r) same_reach has))

-- ---- what a search says
non_decreasing : (rows : List ℕ) → IsStrictlyIncreasing rows → (i j : ℕ) → i ≤ j → j < length rows → get_or rows i 0 ≤ get_or rows j 0
non_decreasing rows rise i j first below = elim (cases_lt i j) [
  | inl before ↦ (let less = below_from_sorted rows i j 0 (sorted_from_strictly_increasing rows rise) before below in omega arith)
  | inr past ↦ (let same : i ≡ j = omega arith in omega (arith, ap (λ k. get_or rows k 0) same))
]

pub get_same : (rows : List ℕ) (k d e : ℕ) → k < length rows → get_or rows k d ≡ get_or rows k e
get_same [] k d e below = absurd (omega arith)
get_same (row ∷ rows) zero d e below = refl
get_same (row ∷ rows) (suc k) d e below = get_same rows k d e (omega arith)

-- a search among rows that rise tells whether one is there
pub found_is_there : (rows : List ℕ) (row : ℕ) (found : Result ℕ ℕ) → IsStrictlyIncreasing rows → IsBinarySearchResult (λ y. nat_cmp y row) rows found → (is_ok found ≡ true) ↔ Contains rows row
found_is_there rows row (Ok k) rise is =
    let at : (k < length rows) × (get_or rows k 0 ≡ row) = searched rows row (Ok k) is (non_decreasing rows rise) in
    (λ _. (k, at.0, get_same rows k row 0 at.0 ∙ at.1), λ _. refl)
found_is_there rows row (Err k) rise is =
    let at : (k ≤ length rows) × ((i : ℕ) → i < k → get_or rows i 0 < row) × ((i : ℕ) → k ≤ i → i < length rows → row < get_or rows i 0) = searched rows row (Err k) is (non_decreasing rows rise) in (
      λ no. absurd (both_ways false refl no),
      λ has. absurd (
          let here : get_or rows has.0 0 ≡ row = get_same rows has.0 0 row has.1 ∙ has.2 in
          elim (cases_lt has.0 k) [
            | inl before ↦ (let less = at.1 has.0 before in omega arith)
            | inr past ↦ (let less = at.2 has.0 past has.1 in omega arith)
          ]),
    )

-- a row that was searched for is the one at its place
pub place_is_found : PointLaws → (blocks : Blocks) (rows : List ℕ) (at : Coord) (place row : ℕ) → AreBelow (volume (all_of blocks)) rows → row < volume (all_of blocks) → number_in blocks (point_in blocks row) ≡ number_in blocks at → row_in_blocks blocks (point_in blocks row) ≡ place → Contains rows row ↔ HasPlace blocks rows at place
place_is_found laws blocks rows at place row below row_below same is = (
  λ has. (row, has, same, is),
  λ other. subst (λ r. Contains rows r)
      (same_row (all_of blocks) (each_of blocks) other.0 row laws.point_of_row laws.row_of_point laws.point_inside (cut_of blocks)
      (All-contains (λ r. r < volume (all_of blocks)) rows other.0 below other.1) row_below (other.2 ∙ sym same) (other.3 ∙ sym is)) other.1,
)

-- ---- closures where all nodes are dense
-- rows that rise are all of them exactly where there are as many
filter_full : {X : Type 0} (test : X → Bool) (xs : List X) → length (filter test xs) ≡ length xs → filter test xs ≡ xs
filter_full test [] same = refl
filter_full {X} test (x ∷ xs) same = elim (cases_Bool (test x)) [
  | inl passes ↦
      let is : filter test (x ∷ xs) ≡ x ∷ filter test xs = cond-true (test x) (x ∷ filter test xs) (filter test xs) passes in
      is ∙ ap (λ (ys : List X). x ∷ ys) (filter_full test xs (let e : length (filter test (x ∷ xs)) ≡ suc (length (filter test xs)) = ap length is in omega arith))
  | inr fails ↦ absurd (
      let e : length (filter test (x ∷ xs)) ≡ length (filter test xs) = ap length (cond-false (test x) (x ∷ filter test xs) (filter test xs) fails) in
      let most = no_longer test xs in
      omega arith)
] where
  no_longer : {X : Type 0} (test : X → Bool) (xs : List X) → length (filter test xs) ≤ length xs
  no_longer test [] = omega arith
  no_longer {X} test (x ∷ xs) = elim (cases_Bool (test x)) [
    | inl passes ↦ let e : length (filter test (x ∷ xs)) ≡ suc (length (filter test xs)) = ap length (cond-true (test x) (x ∷ filter test xs) (filter test xs) passes) in let most = no_longer test xs in omega arith
    | inr fails ↦ let e : length (filter test (x ∷ xs)) ≡ length (filter test xs) = ap length (cond-false (test x) (x ∷ filter test xs) (filter test xs) fails) in let most = no_longer test xs in omega arith
  ]

all_rows : (size : ℕ) (rows : List ℕ) → IsStrictlyIncreasing rows → AreBelow size rows → length rows ≡ size → rows ≡ range_with_len 0 size
all_rows size rows rise below many =
    let kept : rows ≡ filter (contains nat_cmp (set_of rows)) (range_with_len 0 size) = keys_are size (contains nat_cmp (set_of rows)) (set_of rows) (sorted_from_strictly_increasing rows rise) tested in
    kept ∙ filter_full (contains nat_cmp (set_of rows)) (range_with_len 0 size) (ap length (sym kept) ∙ many ∙ sym (length-range_with_len 0 size))
  where
    tested : (r : ℕ) → contains nat_cmp (set_of rows) r ≡ (ltb r size && contains nat_cmp (set_of rows) r)
    tested r =
        same_tests (contains nat_cmp (set_of rows) r) (ltb r size && contains nat_cmp (set_of rows) r)
        (λ has. and_from (ltb r size) (contains nat_cmp (set_of rows) r) (lt-ltb r size (All-contains (λ k. k < size) rows r below (row_had rows r has))) has)
        (λ both. (and_parts (ltb r size) (contains nat_cmp (set_of rows) r) both).1)

pub closed_where_dense : PointLaws → (shape : Shape) (rows : List ℕ) → last_sparse shape.nodes ≡ 0 → IsStrictlyIncreasing rows → AreBelow (volume (bounds_of_shape shape)) rows → (length rows ≡ volume (bounds_of_shape shape)) ↔ AreClosed shape rows
closed_where_dense laws shape rows dense rise below =
    let b = bounds_of_shape shape in
    let whole : closure shape (map (point_at b) rows) ≡ points b = closure_of_dense shape (map (point_at b) rows) laws.inside_test laws.point_inside dense in (
      λ many. whole ∙ ap (map (point_at b)) (sym (all_rows (volume b) rows rise below many)),
      λ closed.
          let same : map (point_at b) rows ≡ points b = sym closed ∙ whole in
          sym (length-map rows (point_at b)) ∙ ap length same ∙ length-map (range_with_len 0 (volume b)) (point_at b) ∙ length-range_with_len 0 (volume b),
    )

-- the blocks are those in which the last node that isn't dense tells the live points
pub record AreBlocksOf (shape : Shape) (blocks : Blocks) : Type 0 where
  pub accepted : IsAccepted shape
  pub index : ℕ
  pub node : NodeShape
  pub later : List NodeShape
  pub last : last_sparse shape.nodes ≡ suc index
  pub split : drop index shape.nodes ≡ node ∷ later
  pub extents : all_of blocks ≡ bounds_of_shape shape
  pub block : each_of blocks ≡ bounds_over shape.axes (drop (nodes_above node.kind index) shape.nodes)
  pub whole : blocks.whole ≡ is_whole node.kind

-- the closure of coordinates, by a set of the rows that they reach
closure_is : PointLaws → (shape : Shape) (blocks : Blocks) → AreBlocksOf shape blocks → (coords : List Coord) (found : BTreeSet ℕ) → IsStrictlySortedBy nat_cmp found.keys → All (Inside (all_of blocks)) coords → ((row : ℕ) → contains nat_cmp found row ≡ reaches_row blocks coords row) → closure shape coords ≡ map (point_in blocks) found.keys
closure_is laws shape blocks are coords found sorted inside has =
    closure_of_sparse shape are.index are.node are.later coords found laws.inside_test laws.point_inside laws.point_of_row laws.row_below are.accepted are.last are.split
    (subst (λ (b : Bounds). All (Inside b) coords) are.extents inside) sorted
    (λ row. has row
    ∙ ap (λ (e : Bounds). is_row_reached e (each_of blocks) blocks.whole coords row) are.extents
    ∙ ap (λ (b : Bounds). is_row_reached (bounds_of_shape shape) b blocks.whole coords row) are.block
    ∙ ap (λ (w : Bool). is_row_reached (bounds_of_shape shape) (bounds_over shape.axes (drop (nodes_above are.node.kind are.index) shape.nodes)) w coords row) are.whole)
    ∙ ap (λ (b : Bounds). map (point_at b) found.keys) (sym are.extents)

-- where a node isn't: rows are closed exactly where each has its neighbours
pub closed_where_sparse : PointLaws → (shape : Shape) (blocks : Blocks) → AreBlocksOf shape blocks → (rows : List ℕ) → IsStrictlyIncreasing rows → AreBelow (volume (all_of blocks)) rows → All (HasNeighbours blocks rows) rows ↔ AreClosed shape rows
closed_where_sparse laws shape blocks are rows rise below = (there, back)
  where
    inside : All (Inside (all_of blocks)) (map (point_in blocks) rows)
    inside = points_inside laws (all_of blocks) rows below

    there : All (HasNeighbours blocks rows) rows → AreClosed shape rows
    there all =
        subst (λ (b : Bounds). closure shape (map (point_at b) rows) ≡ map (point_at b) rows) are.extents
        (closure_is laws shape blocks are (map (point_in blocks) rows) (set_of rows) (sorted_from_strictly_increasing rows rise) inside
        (reached_are laws blocks rows below (full_from_neighbours laws blocks rows below all)))

    back : AreClosed shape rows → All (HasNeighbours blocks rows) rows
    back closed =
        let size = volume (all_of blocks) in
        let test : ℕ → Bool = λ row. is_reached (all_of blocks) (each_of blocks) blocks.whole (map (point_in blocks) rows) (point_in blocks row) in
        let kept = filter test (range_with_len 0 size) in
        let whole : closure shape (map (point_in blocks) rows) ≡ map (point_in blocks) kept = closure_is laws shape blocks are (map (point_in blocks) rows) (passing size test) (passing_sorted size test) inside (passing_has size test) in
        let here : closure shape (map (point_in blocks) rows) ≡ map (point_in blocks) rows = subst (λ (b : Bounds). closure shape (map (point_at b) rows) ≡ map (point_at b) rows) (sym are.extents) closed in
        let same : rows ≡ kept = sym (rows_back laws (all_of blocks) rows below) ∙ ap (map (row_of (all_of blocks))) (sym here ∙ whole)
        ∙ rows_back laws (all_of blocks) kept (All-filter test (λ r. r < size) (range_with_len 0 size) (rows_below size)) in
        neighbours_from_full laws blocks rows below (full_from_reached blocks rows (λ row. ap (λ (rs : List ℕ). contains nat_cmp (set_of rs) row) same ∙ passing_has size test row))
