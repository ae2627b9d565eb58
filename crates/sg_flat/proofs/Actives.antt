-- The closure of coordinates against the rows that they reach.
use Rattle.std.proofs.Common.{◌≡◌, ℕ, suc, ◌+◌, ◌-◌, ◌<◌, Bool, true, false, ◌&&◌, ◌||◌, cond, eqb, ltb, List, [], ◌∷◌, map, length, get_or, drop, Some, refl, sym, ap, ◌∙◌, arith, zero-add}
use Rattle.std.specs.Prelude.{filter, All, slice_get}
use Rattle.std.specs.List.{list_any, range_with_len}
use Rattle.std.specs.List.Sorted.{IsStrictlySortedBy}
use Rattle.std.specs.Ordering.{nat_cmp}
use Rattle.std.specs.Cmp.{nat_cmp_total}
use Rattle.std.specs.BTreeMap.{is_at}
use Rattle.std.specs.BTreeSet.{BTreeSet, contains}
use Rattle.std.proofs.lemmas.Bool.{eqb-true, eq-eqb, ne_eqb, cond-true, lt-ltb, ltb-true}
use Rattle.std.proofs.lemmas.List.{get_or-drop}
use Rattle.std.proofs.Common.{length-drop}
use Rattle.std.proofs.lemmas.Option.{slice_get_read}
use Rattle.std.proofs.lemmas.List.Elements.{All-map, All-head, All-tail}
use Rattle.std.proofs.lemmas.List.Folds.{Any-from_list_any, list_any-from_Any}
use Rattle.std.proofs.lemmas.List.FromFn.{length-range_with_len, get_or-range_with_len}
use Rattle.std.proofs.lemmas.List.Kept.{IsStrictlySortedBy-filter}
use Rattle.std.proofs.lemmas.Map.Keys.{sorted_from_strictly_increasing}
use Rattle.std.proofs.lemmas.Map.Lookups.{btree_set_from_contains, exact_unsigned}
use Rattle.std.proofs.lemmas.Map.Views.{any-filter_same}
use Rattle.sg_coord.specs.declared.coord.Coord.{Coord}
use Rattle.sg_coord.specs.Bounds.{Bounds, volume}
use Rattle.sg_coord.specs.Coord.{Inside, point_at}
use Rattle.sg_coord.specs.Laws.{InsideTest, PointInside, PointOfRow, RowBelow}
use Rattle.sg_layout.specs.declared.shape.Kind.{Kind}
use Rattle.sg_layout.specs.declared.shape.Kind.TheVariants.{Dynamic}
use Rattle.sg_layout.specs.declared.shape.NodeShape.{NodeShape}
use Rattle.sg_layout.specs.declared.shape.Shape.{Shape}
use Rattle.sg_layout.specs.Axes.{bounds_of_shape}
use Rattle.sg_layout.specs.Accepted.{IsAccepted}
use Rattle.sg_layout.specs.Path.{path}
use Rattle.sg_layout.specs.Live.{kind_or, kind_at, makes_live, is_live}
use Rattle.sg_layout.specs.Closure.{last_sparse, is_in_closure, points, closure}
use Rattle.sg_flat.specs.steps.Blocks.{bounds_over, nodes_above, is_whole, block_number, row_in_block, live_points, is_reached, is_row_reached}
use Rattle.sg_flat.proofs.MapWords.{is_eq-nat_cmp}
use Rattle.sg_flat.proofs.Accepted.{good_at, last_where_dynamic}
use Rattle.sg_flat.proofs.Slotted.{slot_test}
use Rattle.sg_words.proofs.Uses.{same_tests}
use Rattle.sg_flat.proofs.Reaches.{is_reached-any, list_any-agree, filter-agree}

-- ---- rows in order
in_range : (size r : ℕ) → list_any (is_at (nat_cmp r)) (range_with_len 0 size) ≡ ltb r size
in_range size r = same_tests _ _ there back
  where
    there : list_any (is_at (nat_cmp r)) (range_with_len 0 size) ≡ true → ltb r size ≡ true
    there found =
        let place = Any-from_list_any (is_at (nat_cmp r)) (range_with_len 0 size) found in
        let below : place.0 < size = omega (arith, length-range_with_len 0 size, place.2) in
        let is : place.1 ≡ place.0 = sym (sym (get_or-range_with_len 0 size place.0 place.1 below) ∙ place.3) ∙ zero-add place.0 in
        let same : r ≡ place.1 = eqb-true r place.1 (sym (is_eq-nat_cmp r place.1) ∙ place.4) in
        lt-ltb r size (omega arith)

    back : ltb r size ≡ true → list_any (is_at (nat_cmp r)) (range_with_len 0 size) ≡ true
    back below =
        let small = ltb-true r size below in
        list_any-from_Any (is_at (nat_cmp r)) (range_with_len 0 size)
        (r, r, omega (arith, length-range_with_len 0 size), get_or-range_with_len 0 size r r small ∙ zero-add r, is_eq-nat_cmp r r ∙ eq-eqb r r refl)

rows_in_order : (size : ℕ) → IsStrictlySortedBy nat_cmp (range_with_len 0 size)
rows_in_order size =
    sorted_from_strictly_increasing (range_with_len 0 size)
    (λ k below.
    let last : k + 1 < size = omega (arith, length-range_with_len 0 size) in
    omega (arith, get_or-range_with_len 0 size k 0 (omega arith), get_or-range_with_len 0 size (k + 1) 0 last))

-- the numbers below another that pass a test, as a set
abbrev pub passing : ℕ → (ℕ → Bool) → BTreeSet ℕ
passing size test = record { keys = filter test (range_with_len 0 size) }

pub passing_sorted : (size : ℕ) (test : ℕ → Bool) → IsStrictlySortedBy nat_cmp (filter test (range_with_len 0 size))
passing_sorted size test = IsStrictlySortedBy-filter nat_cmp test (range_with_len 0 size) (rows_in_order size)

pub passing_has : (size : ℕ) (test : ℕ → Bool) (r : ℕ) → contains nat_cmp (passing size test) r ≡ (ltb r size && test r)
passing_has size test r =
    any-filter_same (is_at (nat_cmp r)) test (test r) (λ k same. ap test (sym (eqb-true r k (sym (is_eq-nat_cmp r k) ∙ same)))) (range_with_len 0 size)
    ∙ ap (λ (b : Bool). test r && b) (in_range size r)
    ∙ and_comm (test r) (ltb r size)
  where
    and_comm : (a b : Bool) → (a && b) ≡ (b && a)
    and_comm true true = refl
    and_comm true false = refl
    and_comm false true = refl
    and_comm false false = refl

-- a set of numbers that has exactly those below another that pass a test
pub keys_are : (size : ℕ) (test : ℕ → Bool) (rows : BTreeSet ℕ) → IsStrictlySortedBy nat_cmp rows.keys → ((r : ℕ) → contains nat_cmp rows r ≡ (ltb r size && test r)) → rows.keys ≡ filter test (range_with_len 0 size)
keys_are size test rows sorted has =
    btree_set_from_contains nat_cmp_total rows (passing size test) sorted (passing_sorted size test) (λ r. has r ∙ sym (passing_has size test r)) exact_unsigned

filter-map : {X Y : Type 0} (f : X → Y) (test : Y → Bool) (xs : List X) → filter test (map f xs) ≡ map f (filter (λ x. test (f x)) xs)
filter-map f test [] = refl
filter-map {X} {Y} f test (x ∷ xs) =
    let rest = filter-map f test xs in
    elim (test (f x)) as (λ (b : Bool). cond b (f x ∷ filter test (map f xs)) (filter test (map f xs)) ≡ map f (cond b (x ∷ filter (λ y. test (f y)) xs) (filter (λ y. test (f y)) xs))) [
      | true ↦ ap (λ (ys : List Y). f x ∷ ys) rest
      | false ↦ rest
    ]

filter-all : {X : Type 0} (test : X → Bool) (xs : List X) → All (λ x. test x ≡ true) xs → filter test xs ≡ xs
filter-all test [] all = refl
filter-all {X} test (x ∷ xs) all =
    cond-true (test x) (x ∷ filter test xs) (filter test xs) (All-head (λ y. test y ≡ true) x xs all)
    ∙ ap (λ (ys : List X). x ∷ ys) (filter-all test xs (All-tail (λ y. test y ≡ true) x xs all))

pub rows_below : (size : ℕ) → All (λ r. r < size) (range_with_len 0 size)
rows_below size k d below =
    let small : k < size = omega (arith, length-range_with_len 0 size) in
    omega (arith, get_or-range_with_len 0 size k d small)

-- ---- the kind of a node
pub node_here : (nodes : List NodeShape) (i : ℕ) (node : NodeShape) (later : List NodeShape) → drop i nodes ≡ node ∷ later → slice_get nodes i ≡ Some node
node_here nodes i node later split =
    let below : i < length nodes = omega (arith, length-drop i nodes, ap length split) in
    let here : get_or nodes i node ≡ node = ap (λ k. get_or nodes k node) (sym (add-zero i)) ∙ sym (get_or-drop i nodes 0 node) ∙ ap (λ (ns : List NodeShape). get_or ns 0 node) split in
    slice_get_read nodes (length nodes) i node refl below (sym here)
  where
    add-zero : (k : ℕ) → k + 0 ≡ k
    add-zero k = omega arith

kind_here : (nodes : List NodeShape) (i : ℕ) (node : NodeShape) (later : List NodeShape) → drop i nodes ≡ node ∷ later → kind_at nodes (suc i) ≡ node.kind
kind_here nodes i node later split =
    let before : suc i - 1 ≡ i = omega arith in
    ap (λ k. kind_or (slice_get nodes k)) before ∙ ap kind_or (node_here nodes i node later split)

-- ---- closures
-- a slot of a node is live for coordinates inside exactly when they reach the point
pub live_is_reached : (shape : Shape) (i : ℕ) (node : NodeShape) (later : List NodeShape) (coords : List Coord) (at : Coord) → PointOfRow → RowBelow → IsAccepted shape → drop i shape.nodes ≡ node ∷ later → All (Inside (bounds_of_shape shape)) coords → Inside (bounds_of_shape shape) at → is_live shape coords (suc i) (path shape at (suc i)) ≡ is_reached (bounds_of_shape shape) (bounds_over shape.axes (drop (nodes_above node.kind i) shape.nodes)) (is_whole node.kind) coords at
live_is_reached shape i node later coords at point_of_row row_below accepted split inside at_in =
    let all = bounds_of_shape shape in
    let block = bounds_over shape.axes (drop (nodes_above node.kind i) shape.nodes) in
    let last : node.kind ≡ Dynamic → later ≡ [] = last_where_dynamic node later (good_at shape i node later accepted split) in
    ap (λ (kind : Kind). list_any (λ (w : Coord). makes_live kind (path shape w (suc i)) (path shape at (suc i))) coords) (kind_here shape.nodes i node later split)
    ∙ list_any-agree (Inside all) (λ (w : Coord). makes_live node.kind (path shape w (suc i)) (path shape at (suc i)))
    (λ (w : Coord). eqb (block_number all block w) (block_number all block at) && ltb (row_in_block block at) (live_points (is_whole node.kind) block w)) coords
    (λ (w : Coord) w_in. slot_test shape i node later node.kind w at point_of_row row_below accepted split last w_in at_in) inside
    ∙ sym (is_reached-any all block (is_whole node.kind) coords at)

-- where all nodes are dense
pub closure_of_dense : (shape : Shape) (coords : List Coord) → InsideTest → PointInside → last_sparse shape.nodes ≡ 0 → closure shape coords ≡ points (bounds_of_shape shape)
closure_of_dense shape coords inside_test point_inside dense =
    let all = bounds_of_shape shape in
    filter-all (is_in_closure shape coords) (points all)
    (All-map (λ (at : Coord). is_in_closure shape coords at ≡ true) (point_at all) (range_with_len 0 (volume all))
    (λ k d below.
    let r = get_or (range_with_len 0 (volume all)) k d in
    ap (λ (b : Bool). b && (eqb (last_sparse shape.nodes) 0 || is_live shape coords (last_sparse shape.nodes) (path shape (point_at all r) (last_sparse shape.nodes))))
    ((inside_test all (point_at all r)).1 (point_inside all r (rows_below (volume all) k d below)))
    ∙ ap (λ (b : Bool). b || is_live shape coords (last_sparse shape.nodes) (path shape (point_at all r) (last_sparse shape.nodes))) (eq-eqb (last_sparse shape.nodes) 0 dense)))

-- if a node isn't, the last of them being this
pub closure_of_sparse : (shape : Shape) (i : ℕ) (node : NodeShape) (later : List NodeShape) (coords : List Coord) (rows : BTreeSet ℕ) → InsideTest → PointInside → PointOfRow → RowBelow → IsAccepted shape → last_sparse shape.nodes ≡ suc i → drop i shape.nodes ≡ node ∷ later → All (Inside (bounds_of_shape shape)) coords → IsStrictlySortedBy nat_cmp rows.keys → ((r : ℕ) → contains nat_cmp rows r ≡ is_row_reached (bounds_of_shape shape) (bounds_over shape.axes (drop (nodes_above node.kind i) shape.nodes)) (is_whole node.kind) coords r) → closure shape coords ≡ map (point_at (bounds_of_shape shape)) rows.keys
closure_of_sparse shape i node later coords rows inside_test point_inside point_of_row row_below accepted last split inside sorted has =
    let all = bounds_of_shape shape in
    let block = bounds_over shape.axes (drop (nodes_above node.kind i) shape.nodes) in
    let reached : ℕ → Bool = λ r. is_reached all block (is_whole node.kind) coords (point_at all r) in
    filter-map (point_at all) (is_in_closure shape coords) (range_with_len 0 (volume all))
    ∙ ap (map (point_at all)) (
    filter-agree (λ r. r < volume all) (λ r. is_in_closure shape coords (point_at all r)) reached (range_with_len 0 (volume all)) (tested all block) (rows_below (volume all))
    ∙ sym (keys_are (volume all) reached rows sorted has))
  where
    tested : (all block : Bounds) (r : ℕ) → r < volume (bounds_of_shape shape) → is_in_closure shape coords (point_at (bounds_of_shape shape) r) ≡ is_reached (bounds_of_shape shape) (bounds_over shape.axes (drop (nodes_above node.kind i) shape.nodes)) (is_whole node.kind) coords (point_at (bounds_of_shape shape) r)
    tested _ _ r below =
        let at = point_at (bounds_of_shape shape) r in
        let at_in = point_inside (bounds_of_shape shape) r below in
        ap (λ (b : Bool). b && (eqb (last_sparse shape.nodes) 0 || is_live shape coords (last_sparse shape.nodes) (path shape at (last_sparse shape.nodes)))) ((inside_test (bounds_of_shape shape) at).1 at_in)
        ∙ ap (λ k. eqb k 0 || is_live shape coords k (path shape at k)) last
        ∙ ap (λ (b : Bool). b || is_live shape coords (suc i) (path shape at (suc i))) (ne_eqb (suc i) 0 (λ e. omega arith))
        ∙ live_is_reached shape i node later coords at point_of_row row_below accepted split inside at_in
