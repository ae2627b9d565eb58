-- The points of a box by their numbers.
use Rattle.std.proofs.Common.{◌≡◌, ℕ, zero, suc, ◌+◌, ◌-◌, ◌*◌, ◌/◌, ◌%◌, ◌<◌, ◌≤◌, ℤ, pos, negsuc, ◌+ℤ◌, ◌-ℤ◌, ◌≤ℤ◌, ◌<ℤ◌, Bool, true, false, List, [], ◌∷◌, ◌++◌, map, length, take, drop, get_or, refl, sym, ap, ◌∙◌, subst, arith, append_assoc, append-nil}
use Rattle.std.specs.Prelude.{nat_le, Contains, Option, None, Some, IfSome, Result, Ok, Err, OnOk}
use Rattle.std.specs.List.{flat_map, range_with_len}
use Rattle.std.proofs.lemmas.Int.{ints}
use Rattle.std.proofs.lemmas.Nat.{div-add-mod', div-mul-add, mod-mul-add, div_below, mod_below}
use Rattle.std.proofs.lemmas.List.FromFn.{length-map-range_with_len, get_or-map-range_with_len, take-map-range_with_len}
use Rattle.std.proofs.lemmas.Grind.{flat_map-append}
use native.Mathlib.Nat as nat
use Rattle.sg_coord.specs.declared.coord.Coord.{Coord}
use Rattle.sg_coord.specs.Bounds.{Bounds, volume}
use Rattle.sg_coord.specs.Coord.{point_at}
use Rattle.sg_layout.specs.Axes.{count_of}
use Rattle.sg_layout.specs.Closure.{points}
use Rattle.sg_flat.specs.Domain.{parts_of, box_points}
use Rattle.sg_exec.specs.declared.workers.region.Region.{Region}
use Rattle.sg_exec.specs.declared.workers.region.Along.{Along}
use Rattle.sg_exec.specs.declared.workers.region.Side.{Side}
use Rattle.sg_exec.specs.declared.workers.points.Form.{Form}
use Rattle.sg_exec.specs.declared.workers.points.Form.TheVariants.{Within}
use Rattle.sg_exec.specs.steps.Boxes.{points_of, part_count, first_part, region_point, region_points, IsRegion, IsUpToMost, AreAlong, IsInside, point_along}

-- ---- rows of rows, counted through

last : (a n j : ℕ) → a + n ≡ j → range_with_len a (suc n) ≡ range_with_len a n ++ j ∷ []
last a zero j e = ap (λ (x : ℕ). x ∷ []) (omega (arith, e))
last a (suc n) j e = ap (λ (xs : List ℕ). a ∷ xs) (last (a + 1) n j (omega (arith, e)))

module _ {X : Type 0} where
  one_more : (f : ℕ → List X) (k : ℕ) → flat_map f (range_with_len 0 (suc k)) ≡ flat_map f (range_with_len 0 k) ++ f k
  one_more f k =
      ap (flat_map f) (last 0 k k (omega arith)) ∙ flat_map-append f (range_with_len 0 k) (k ∷ [])
      ∙ ap (λ (xs : List X). flat_map f (range_with_len 0 k) ++ xs) (append-nil (f k))

  module _ (n : ℕ) (row : ℕ → ℕ → List X) where
    through : ℕ → List X
    through k = flat_map (λ i. row (i / n) (i % n)) (range_with_len 0 k)

    all_rows : ℕ → List X
    all_rows m = flat_map (λ i. flat_map (row i) (range_with_len 0 n)) (range_with_len 0 m)

    so_far : (i j : ℕ) → j ≤ n → through (i * n + j) ≡ all_rows i ++ flat_map (row i) (range_with_len 0 j)
    unfolding through all_rows
    so_far zero zero few = ap through (let same : zero * n + zero ≡ 0 = omega arith in same)
    so_far (suc i) zero few =
        ap through (let same : suc i * n + 0 ≡ i * n + n = omega arith in same) ∙ so_far i n (omega arith)
        ∙ sym (one_more (λ x. flat_map (row x) (range_with_len 0 n)) i) ∙ sym (append-nil (all_rows (suc i)))
    so_far i (suc j) few =
        let low : j < n = omega (arith, few) in
        ap through (let same : i * n + suc j ≡ suc (i * n + j) = omega arith in same)
        ∙ one_more (λ x. row (x / n) (x % n)) (i * n + j)
        ∙ ap (λ (xs : List X). xs ++ row ((i * n + j) / n) ((i * n + j) % n)) (so_far i j (omega (arith, few)))
        ∙ ap (λ (x : ℕ). (all_rows i ++ flat_map (row i) (range_with_len 0 j)) ++ row x ((i * n + j) % n)) (div-mul-add i n j low)
        ∙ ap (λ (x : ℕ). (all_rows i ++ flat_map (row i) (range_with_len 0 j)) ++ row i x) (mod-mul-add i n j low)
        ∙ append_assoc (all_rows i) (flat_map (row i) (range_with_len 0 j)) (row i j)
        ∙ ap (λ (xs : List X). all_rows i ++ xs) (sym (one_more (row i) j))

    counted : (m : ℕ) → flat_map (λ i. flat_map (row i) (range_with_len 0 n)) (range_with_len 0 m) ≡ flat_map (λ k. row (k / n) (k % n)) (range_with_len 0 (m * n))
    unfolding through all_rows
    counted m = sym (ap through (let same : m * n ≡ m * n + 0 = omega arith in same) ∙ so_far m 0 (omega arith) ∙ append-nil (all_rows m))

  one_each : {Y : Type 0} (f : Y → X) (xs : List Y) → map f xs ≡ flat_map (λ x. f x ∷ []) xs
  one_each f [] = refl
  one_each f (x ∷ xs) = ap (λ (ys : List X). f x ∷ ys) (one_each f xs)

  of_each : {Y Z : Type 0} (f : Y → List X) (g : Z → Y) (xs : List Z) → flat_map f (map g xs) ≡ flat_map (λ x. f (g x)) xs
  of_each f g [] = refl
  of_each f g (x ∷ xs) = ap (λ (ys : List X). f (g x) ++ ys) (of_each f g xs)

  each_same : {Y : Type 0} (f g : Y → List X) (xs : List Y) → ((x : Y) → f x ≡ g x) → flat_map f xs ≡ flat_map g xs
  each_same f g [] same = refl
  each_same f g (x ∷ xs) same = ap (λ (ys : List X). ys ++ flat_map f xs) (same x) ∙ ap (λ (ys : List X). g x ++ ys) (each_same f g xs same)

  map_same : {Y : Type 0} (f g : Y → X) (xs : List Y) → ((x : Y) → f x ≡ g x) → map f xs ≡ map g xs
  map_same f g [] same = refl
  map_same f g (x ∷ xs) same = ap (λ (y : X). y ∷ map f xs) (same x) ∙ ap (λ (ys : List X). g x ∷ ys) (map_same f g xs same)

  map_map : {Y Z : Type 0} (f : Y → X) (g : Z → Y) (xs : List Z) → map f (map g xs) ≡ map (λ x. f (g x)) xs
  map_map f g [] = refl
  map_map f g (x ∷ xs) = ap (λ (ys : List X). f (g x) ∷ ys) (map_map f g xs)

  -- three axes
  all_counted : (item : ℕ → ℕ → ℕ → X) (planes lines cells : ℕ)
      → flat_map (λ i. flat_map (λ j. map (item i j) (range_with_len 0 cells)) (range_with_len 0 lines)) (range_with_len 0 planes)
      ≡ map (λ k. item (k / cells / lines) (k / cells % lines) (k % cells)) (range_with_len 0 (planes * lines * cells))
  all_counted item planes lines cells =
      counted lines (λ i j. map (item i j) (range_with_len 0 cells)) planes
      ∙ each_same _ (λ k. flat_map (λ l. item (k / lines) (k % lines) l ∷ []) (range_with_len 0 cells)) (range_with_len 0 (planes * lines)) (λ k. one_each (item (k / lines) (k % lines)) (range_with_len 0 cells))
      ∙ counted cells (λ k l. item (k / lines) (k % lines) l ∷ []) (planes * lines)
      ∙ sym (one_each (λ k. item (k / cells / lines) (k / cells % lines) (k % cells)) (range_with_len 0 (planes * lines * cells)))

  -- a part of what is made of numbers
  pub cut : (f : ℕ → X) (a first count n : ℕ) → first + count ≤ n → take count (drop first (map f (range_with_len a n))) ≡ map f (range_with_len (a + first) count)
  cut f a zero count n within =
      take-map-range_with_len f a n count (omega (arith, within)) ∙ ap (λ (x : ℕ). map f (range_with_len x count)) (let same : a ≡ a + 0 = omega arith in same)
  cut f a (suc first) count zero within = absurd (omega (arith, within))
  cut f a (suc first) count (suc n) within =
      cut f (a + 1) first count n (omega (arith, within)) ∙ ap (λ (x : ℕ). map f (range_with_len x count)) (let same : (a + 1) + first ≡ a + suc first = omega arith in same)

-- ---- the points of a box

abbrev pub point : ℕ → ℤ → ℤ → ℤ → Coord
point n a b c = record { n = n; a = a; b = b; c = c }

pub same_point : (n : ℕ) (a a' b b' c c' : ℤ) → a ≡ a' → b ≡ b' → c ≡ c' → point n a b c ≡ point n a' b' c'
same_point n a a' b b' c c' p q r = ap (λ (z : ℤ). point n z b c) p ∙ ap (λ (z : ℤ). point n a' z c) q ∙ ap (λ (z : ℤ). point n a' b' z) r

abbrev side : Bool → ℤ → ℤ → Side
side used lo hi = record { used = used; lo = lo; hi = hi }

-- the part of a side with a number
abbrev part : Side → ℕ → ℤ
part it k = first_part it +ℤ pos k

parts_are : (used : Bool) (lo hi : ℤ) → parts_of used lo hi ≡ map (part (side used lo hi)) (range_with_len 0 (part_count (side used lo hi)))
parts_are true lo hi = refl
parts_are false lo hi = refl

abbrev grid : ℕ → List ℤ → List ℤ → List ℤ → List Coord
grid n xs ys zs = flat_map (λ a. flat_map (λ b. map (λ c. point n a b c) zs) ys) xs

grid_counted : (n : ℕ) (p q r : Side) → grid n (map (part p) (range_with_len 0 (part_count p))) (map (part q) (range_with_len 0 (part_count q))) (map (part r) (range_with_len 0 (part_count r)))
    ≡ map (λ k. point n (part p (k / part_count r / part_count q)) (part q (k / part_count r % part_count q)) (part r (k % part_count r))) (range_with_len 0 (part_count p * part_count q * part_count r))
grid_counted n p q r =
    let ps = range_with_len 0 (part_count p) in
    let qs = range_with_len 0 (part_count q) in
    let rs = range_with_len 0 (part_count r) in
    of_each (λ (a : ℤ). flat_map (λ (b : ℤ). map (λ (c : ℤ). point n a b c) (map (part r) rs)) (map (part q) qs)) (part p) ps
    ∙ each_same _ (λ (i : ℕ). flat_map (λ (j : ℕ). map (λ (l : ℕ). point n (part p i) (part q j) (part r l)) rs) qs) ps
    (λ i. of_each (λ (b : ℤ). map (λ (c : ℤ). point n (part p i) b c) (map (part r) rs)) (part q) qs
    ∙ each_same _ (λ (j : ℕ). map (λ (l : ℕ). point n (part p i) (part q j) (part r l)) rs) qs (λ j. map_map (λ (c : ℤ). point n (part p i) (part q j) c) (part r) rs))
    ∙ all_counted (λ i j l. point n (part p i) (part q j) (part r l)) (part_count p) (part_count q) (part_count r)

pub box_counted : (lo hi : Coord) (p q r : Side) → p ≡ side (nat_le 1 lo.n) lo.a hi.a → q ≡ side (nat_le 2 lo.n) lo.b hi.b → r ≡ side (nat_le 3 lo.n) lo.c hi.c
    → map (λ k. point lo.n (part p (k / part_count r / part_count q)) (part q (k / part_count r % part_count q)) (part r (k % part_count r))) (range_with_len 0 (part_count p * part_count q * part_count r))
    ≡ box_points lo hi
box_counted lo hi p q r is_p is_q is_r =
    sym (grid_counted lo.n p q r)
    ∙ ap (λ (it : Side). grid lo.n (map (part it) (range_with_len 0 (part_count it))) (map (part q) (range_with_len 0 (part_count q))) (map (part r) (range_with_len 0 (part_count r)))) is_p
    ∙ ap (λ (xs : List ℤ). grid lo.n xs (map (part q) (range_with_len 0 (part_count q))) (map (part r) (range_with_len 0 (part_count r)))) (sym (parts_are (nat_le 1 lo.n) lo.a hi.a))
    ∙ ap (λ (it : Side). grid lo.n (parts_of (nat_le 1 lo.n) lo.a hi.a) (map (part it) (range_with_len 0 (part_count it))) (map (part r) (range_with_len 0 (part_count r)))) is_q
    ∙ ap (λ (ys : List ℤ). grid lo.n (parts_of (nat_le 1 lo.n) lo.a hi.a) ys (map (part r) (range_with_len 0 (part_count r)))) (sym (parts_are (nat_le 2 lo.n) lo.b hi.b))
    ∙ ap (λ (it : Side). grid lo.n (parts_of (nat_le 1 lo.n) lo.a hi.a) (parts_of (nat_le 2 lo.n) lo.b hi.b) (map (part it) (range_with_len 0 (part_count it)))) is_r
    ∙ ap (λ (zs : List ℤ). grid lo.n (parts_of (nat_le 1 lo.n) lo.a hi.a) (parts_of (nat_le 2 lo.n) lo.b hi.b) zs) (sym (parts_are (nat_le 3 lo.n) lo.c hi.c))

-- the points that are counted from a corner on
abbrev pub counted_from : Coord → (lines cells count : ℕ) → List Coord
counted_from corner lines cells count =
    map (λ k. point corner.n (corner.a +ℤ pos (k / cells / lines)) (corner.b +ℤ pos (k / cells % lines)) (corner.c +ℤ pos (k % cells))) (range_with_len 0 count)

pub box_region : (lo hi corner : Coord) (planes lines cells count : ℕ) (p q r : Side) → corner ≡ point lo.n (first_part p) (first_part q) (first_part r) → planes ≡ part_count p → lines ≡ part_count q → cells ≡ part_count r
    → planes * lines * cells ≡ count → p ≡ side (nat_le 1 lo.n) lo.a hi.a → q ≡ side (nat_le 2 lo.n) lo.b hi.b → r ≡ side (nat_le 3 lo.n) lo.c hi.c
    → counted_from corner lines cells count ≡ box_points lo hi
box_region lo hi corner planes lines cells count p q r is_corner is_planes is_lines is_cells is_count is_p is_q is_r =
    ap (λ (at : Coord). counted_from at lines cells count) is_corner
    ∙ ap (λ (n : ℕ). counted_from (point lo.n (first_part p) (first_part q) (first_part r)) n cells count) is_lines
    ∙ ap (λ (n : ℕ). counted_from (point lo.n (first_part p) (first_part q) (first_part r)) (part_count q) n count) is_cells
    ∙ ap (λ (n : ℕ). counted_from (point lo.n (first_part p) (first_part q) (first_part r)) (part_count q) (part_count r) n)
    (sym is_count ∙ ap (λ (n : ℕ). n * lines * cells) is_planes ∙ ap (λ (n : ℕ). part_count p * n * cells) is_lines ∙ ap (λ (n : ℕ). part_count p * part_count q * n) is_cells)
    ∙ box_counted lo hi p q r is_p is_q is_r

-- ---- all points of a region

pub within_list : (form : Form) (region : Region) (all : List Coord) → form ≡ Within region → points_of form ≡ all → region_points region ≡ all
within_list form region all is view = sym (ap points_of is) ∙ view

pub within_long : (form : Form) (region : Region) (all : List Coord) → form ≡ Within region → points_of form ≡ all → region.count ≡ length all
within_long form region all is view =
    sym (length-map-range_with_len (region_point region) 0 region.count) ∙ ap (λ (l : List Coord). length l) (within_list form region all is view)

-- ---- all points inside

zero_plus : (k : ℕ) → pos 0 +ℤ pos k ≡ pos k
zero_plus k = omega (arith, ints)

pub all_inside : (e : Bounds) → map (λ k. point e.n (pos 0 +ℤ pos (k / e.c / e.b)) (pos 0 +ℤ pos (k / e.c % e.b)) (pos 0 +ℤ pos (k % e.c))) (range_with_len 0 (volume e)) ≡ points e
all_inside e =
    map_same _ (point_at e) (range_with_len 0 (volume e))
    (λ k. same_point e.n _ _ _ _ _ _ (zero_plus (k / e.c / e.b) ∙ ap pos (nat.div-div-eq-div-mul k e.c e.b ∙ ap (λ (n : ℕ). k / n) (let turned : e.c * e.b ≡ e.b * e.c = omega arith in turned)))
    (zero_plus (k / e.c % e.b)) (zero_plus (k % e.c)))

-- ---- how far a point is along each axis

some_of : (k m n : ℕ) → k < m * n → 0 < n
some_of k m zero below = absurd (omega (arith, below))
some_of k m (suc n) below = omega arith

pub number_inside : (region : Region) (k : ℕ) (along : Along) → IsRegion region → k < region.count → AreAlong region k along → IsInside region along
number_inside region k along is below far =
    let all : k < region.planes * region.lines * region.cells = omega (arith, is.count_is, below) in
    let cells : 0 < region.cells = some_of k (region.planes * region.lines) region.cells all in
    let rows : k / region.cells < region.planes * region.lines = div_below k region.cells (region.planes * region.lines) cells all in
    let lines : 0 < region.lines = some_of (k / region.cells) region.planes region.lines rows in
    record {
      plane_low = omega (arith, far.plane_is, div_below (k / region.cells) region.lines region.planes lines rows);
      line_low = omega (arith, far.line_is, mod_below (k / region.cells) region.lines lines);
      cell_low = omega (arith, far.cell_is, mod_below k region.cells cells);
    }

pub point_is : (region : Region) (k : ℕ) (along : Along) → AreAlong region k along → point_along region along ≡ region_point region k
point_is region k along far =
    same_point region.corner.n _ _ _ _ _ _ (ap (λ (x : ℕ). region.corner.a +ℤ pos x) far.plane_is) (ap (λ (x : ℕ). region.corner.b +ℤ pos x) far.line_is) (ap (λ (x : ℕ). region.corner.c +ℤ pos x) far.cell_is)

-- no part of a point is past the last ones
pub region_most : (region : Region) (a b c : ℕ) → IsRegion region → pos 0 ≤ℤ region.corner.a → pos 0 ≤ℤ region.corner.b → pos 0 ≤ℤ region.corner.c
    → ((far : ℕ) → far < region.planes → (region.corner.a +ℤ pos far) ≤ℤ pos a) → ((far : ℕ) → far < region.lines → (region.corner.b +ℤ pos far) ≤ℤ pos b) → ((far : ℕ) → far < region.cells → (region.corner.c +ℤ pos far) ≤ℤ pos c)
    → (k : ℕ) → k < region.count → IsUpToMost (record { a = a; b = b; c = c }) (region_point region k)
region_most region a b c is a_low b_low c_low a_high b_high c_high k below =
    let along : Along = record { plane = k / region.cells / region.lines; line = k / region.cells % region.lines; cell = k % region.cells } in
    let inside = number_inside region k along is below (record { plane_is = refl; line_is = refl; cell_is = refl }) in
    record {
      a_low = omega (arith, ints, a_low);
      a_high = a_high (k / region.cells / region.lines) inside.plane_low;
      b_low = omega (arith, ints, b_low);
      b_high = b_high (k / region.cells % region.lines) inside.line_low;
      c_low = omega (arith, ints, c_low);
      c_high = c_high (k % region.cells) inside.cell_low;
    }

-- what each point of a region keeps, each of the points keeps
pub within_each : (P : Coord → Type 0) (form : Form) (region : Region) (all : List Coord) → form ≡ Within region → points_of form ≡ all
    → ((k : ℕ) → k < region.count → P (region_point region k)) → (at : Coord) → Contains all at → P at
within_each P form region all is view each at has =
    let below : has.0 < region.count = omega (arith, within_long form region all is view, has.1) in
    subst P (sym (get_or-map-range_with_len (region_point region) 0 region.count has.0 has.0 at below (omega arith)) ∙ ap (λ (l : List Coord). get_or l has.0 at) (within_list form region all is view) ∙ has.2) (each has.0 below)

-- the next number, within a row or at the start of the next one
on_div : (k n : ℕ) → k % n + 1 < n → (k + 1) / n ≡ k / n
on_div k n low = ap (λ (x : ℕ). x / n) (let same : k + 1 ≡ k / n * n + (k % n + 1) = omega (arith, div-add-mod' k n) in same) ∙ div-mul-add (k / n) n (k % n + 1) low

on_mod : (k n : ℕ) → k % n + 1 < n → (k + 1) % n ≡ k % n + 1
on_mod k n low = ap (λ (x : ℕ). x % n) (let same : k + 1 ≡ k / n * n + (k % n + 1) = omega (arith, div-add-mod' k n) in same) ∙ mod-mul-add (k / n) n (k % n + 1) low

over_div : (k n : ℕ) → 0 < n → k % n + 1 ≡ n → (k + 1) / n ≡ k / n + 1
over_div k n some full = ap (λ (x : ℕ). x / n) (let same : k + 1 ≡ (k / n + 1) * n + 0 = omega (arith, div-add-mod' k n, full) in same) ∙ div-mul-add (k / n + 1) n 0 some

over_mod : (k n : ℕ) → 0 < n → k % n + 1 ≡ n → (k + 1) % n ≡ 0
over_mod k n some full = ap (λ (x : ℕ). x % n) (let same : k + 1 ≡ (k / n + 1) * n + 0 = omega (arith, div-add-mod' k n, full) in same) ∙ mod-mul-add (k / n + 1) n 0 some

module _ (region : Region) (k : ℕ) (along next : Along) (far : AreAlong region k along) where
  pub in_line : next.plane ≡ along.plane → next.line ≡ along.line → next.cell ≡ along.cell + 1 → along.cell + 1 < region.cells → AreAlong region (k + 1) next
  in_line plane line cell low =
      let same : (k + 1) / region.cells ≡ k / region.cells = on_div k region.cells (omega (arith, far.cell_is, low)) in
      record {
        plane_is = plane ∙ far.plane_is ∙ sym (ap (λ (x : ℕ). x / region.lines) same);
        line_is = line ∙ far.line_is ∙ sym (ap (λ (x : ℕ). x % region.lines) same);
        cell_is = cell ∙ ap (λ (x : ℕ). x + 1) far.cell_is ∙ sym (on_mod k region.cells (omega (arith, far.cell_is, low)));
      }

  pub next_line : next.plane ≡ along.plane → next.line ≡ along.line + 1 → next.cell ≡ 0 → along.cell + 1 ≡ region.cells → along.line + 1 < region.lines → AreAlong region (k + 1) next
  next_line plane line cell full low =
      let over : (k + 1) / region.cells ≡ k / region.cells + 1 = over_div k region.cells (omega (arith, full)) (omega (arith, far.cell_is, full)) in
      let less : k / region.cells % region.lines + 1 < region.lines = omega (arith, far.line_is, low) in
      record {
        plane_is = plane ∙ far.plane_is ∙ sym (ap (λ (x : ℕ). x / region.lines) over ∙ on_div (k / region.cells) region.lines less);
        line_is = line ∙ ap (λ (x : ℕ). x + 1) far.line_is ∙ sym (ap (λ (x : ℕ). x % region.lines) over ∙ on_mod (k / region.cells) region.lines less);
        cell_is = cell ∙ sym (over_mod k region.cells (omega (arith, full)) (omega (arith, far.cell_is, full)));
      }

  pub next_plane : next.plane ≡ along.plane + 1 → next.line ≡ 0 → next.cell ≡ 0 → along.cell + 1 ≡ region.cells → along.line + 1 ≡ region.lines → AreAlong region (k + 1) next
  next_plane plane line cell full last =
      let over : (k + 1) / region.cells ≡ k / region.cells + 1 = over_div k region.cells (omega (arith, full)) (omega (arith, far.cell_is, full)) in
      let ends : k / region.cells % region.lines + 1 ≡ region.lines = omega (arith, far.line_is, last) in
      let some : 0 < region.lines = omega (arith, last) in
      record {
        plane_is = plane ∙ ap (λ (x : ℕ). x + 1) far.plane_is ∙ sym (ap (λ (x : ℕ). x / region.lines) over ∙ over_div (k / region.cells) region.lines some ends);
        line_is = line ∙ sym (ap (λ (x : ℕ). x % region.lines) over ∙ over_mod (k / region.cells) region.lines some ends);
        cell_is = cell ∙ sym (over_mod k region.cells (omega (arith, full)) (omega (arith, far.cell_is, full)));
      }

-- ---- the range of a box on an axis

count_is : (z : ℤ) → pos 0 ≤ℤ z → pos (count_of z) ≡ z
count_is (pos n) h = refl
count_is (negsuc n) h = absurd (omega (arith, ints))

count_none : (z : ℤ) → z ≤ℤ pos 0 → count_of z ≡ 0
count_none (pos n) h = omega (arith, ints)
count_none (negsuc n) h = refl

pub count_some : (used : Bool) (lo hi : ℤ) → used ≡ true → lo <ℤ hi → pos (part_count (side used lo hi)) ≡ hi -ℤ lo
count_some true lo hi is below = count_is (hi -ℤ lo) (omega (arith, ints))
count_some false lo hi is below = absurd (cc)

pub count_empty : (used : Bool) (lo hi : ℤ) → used ≡ true → hi ≤ℤ lo → part_count (side used lo hi) ≡ 0
count_empty true lo hi is above = count_none (hi -ℤ lo) (omega (arith, ints))
count_empty false lo hi is above = absurd (cc)

pub count_unused : (used : Bool) (lo hi : ℤ) → used ≡ false → part_count (side used lo hi) ≡ 1
count_unused true lo hi is = absurd (cc)
count_unused false lo hi is = refl

-- its last part is a word where its ends are
pub side_fits : (it : Side) (top : ℕ) → it.lo ≤ℤ pos top → it.hi ≤ℤ pos top → 1 ≤ top → (first_part it +ℤ pos (part_count it)) ≤ℤ pos top
side_fits it top low high some = of_used it.used it.lo it.hi low high
  where
    by_count : (lo hi z : ℤ) → hi -ℤ lo ≡ z → lo ≤ℤ pos top → hi ≤ℤ pos top → (lo +ℤ pos (count_of z)) ≤ℤ pos top
    by_count lo hi (pos n) is low high = omega (arith, ints, is, low, high)
    by_count lo hi (negsuc n) is low high = omega (arith, ints, low)

    of_used : (used : Bool) (lo hi : ℤ) → lo ≤ℤ pos top → hi ≤ℤ pos top → (first_part (side used lo hi) +ℤ pos (part_count (side used lo hi))) ≤ℤ pos top
    of_used true lo hi low high = by_count lo hi (hi -ℤ lo) refl low high
    of_used false lo hi low high = omega (arith, ints, some)

pub fits_as : (z z' : ℤ) (n n' top : ℕ) → z' ≡ z → n' ≡ n → (z +ℤ pos n) ≤ℤ pos top → (z' +ℤ pos n') ≤ℤ pos top
fits_as z z' n n' top same_z same_n fits = subst (λ (x : ℤ). (x +ℤ pos n') ≤ℤ pos top) (sym same_z) (subst (λ (m : ℕ). (z +ℤ pos m) ≤ℤ pos top) (sym same_n) fits)

-- ---- answers

pub on_ok_more : {A E : Type 0} (P Q : Type 0) (answer : Result A E) → (P → Q) → OnOk answer P → OnOk answer Q
on_ok_more P Q (Ok a) f h = f h
on_ok_more P Q (Err e) f h = tt

pub if_some_more : {A : Type 0} (P Q : A → Type 0) (found : Option A) → ((a : A) → P a → Q a) → IfSome found P → IfSome found Q
if_some_more P Q None more held = tt
if_some_more P Q (Some a) more held = more a held
