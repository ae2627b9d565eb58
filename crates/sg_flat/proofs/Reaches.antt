-- How far lists of coordinates reach in blocks: one more coordinate, the points that it adds, and what the lengths say of slots.
use Rattle.std.proofs.Common.{◌≡◌, ℕ, ◌+◌, ◌*◌, ◌/◌, ◌%◌, ◌<◌, ◌≤◌, pos, inl, inr, max, Bool, true, false, ◌&&◌, ◌||◌, cond, eqb, ltb, leb, List, [], ◌∷◌, ◌++◌, map, length, get_or, take, Option, None, refl, sym, ap, ◌∙◌, arith}
use Rattle.std.specs.Prelude.{filter, unwrap_or, All}
use Rattle.std.specs.List.{fold, list_any}
use Rattle.std.specs.Ordering.{nat_cmp}
use Rattle.std.specs.BTreeMap.{is_at}
use Rattle.std.proofs.lemmas.Bool.{cases_eq, cases_lt, cases_Bool, eq-eqb, ne_eqb, cond-true, cond-false, lt-ltb, le-ltb, ltb-true, le-leb}
use Rattle.std.proofs.lemmas.List.Elements.{filter_more, All-head, All-tail}
use Rattle.std.proofs.lemmas.List.Sums.{fold_push}
use Rattle.std.proofs.lemmas.List.{append-nil}
use Rattle.sg_coord.specs.declared.coord.Coord.{Coord}
use Rattle.sg_coord.specs.Bounds.{Bounds, volume}
use Rattle.sg_coord.specs.Coord.{Inside, count_of, row_of, point_at}
use Rattle.sg_coord.specs.Laws.{PointOfRow, RowOfPoint, PointInside}
use Rattle.sg_flat.specs.steps.Blocks.{within, block_number, row_in_block, live_points, longer, length_at, is_reached}
use Rattle.sg_flat.proofs.Cuts.{IsCut, same_runs_from_block, within_inside}
use Rattle.sg_coord.proofs.Uses.{same_parts, part_is}
use Rattle.sg_flat.proofs.MapWords.{is_eq-nat_cmp}
use Rattle.sg_words.proofs.Uses.{same_tests}
use Rattle.std.proofs.lemmas.Nat.{div-add-mod'}

-- ---- one more coordinate
length_by : (number : ℕ) (all block : Bounds) (whole : Bool) (front : List Coord) (at : Coord) (here : Bool) → fold longer None (map (live_points whole block) (front ++ cond here (at ∷ []) [])) ≡ cond here (longer (fold longer None (map (live_points whole block) front)) (live_points whole block at)) (fold longer None (map (live_points whole block) front))
length_by number all block whole front at true = ap (fold longer None) (map-push front) ∙ fold_push longer None (map (live_points whole block) front) (live_points whole block at)
  where
    map-push : (xs : List Coord) → map (live_points whole block) (xs ++ at ∷ []) ≡ map (live_points whole block) xs ++ (live_points whole block at ∷ [])
    map-push [] = refl
    map-push (x ∷ xs) = ap (λ rest. live_points whole block x ∷ rest) (map-push xs)
length_by number all block whole front at false = ap (λ (xs : List Coord). fold longer None (map (live_points whole block) xs)) (append-nil front)

pub length_at-more : (all block : Bounds) (whole : Bool) (coords : List Coord) (i : ℕ) (at : Coord) (number : ℕ) → i < length coords → at ≡ get_or coords i at → length_at all block whole (take (i + 1) coords) number ≡ cond (eqb (block_number all block at) number) (longer (length_at all block whole (take i coords) number) (live_points whole block at)) (length_at all block whole (take i coords) number)
length_at-more all block whole coords i at number below is =
    let test : Coord → Bool = λ (x : Coord). eqb (block_number all block x) number in
    ap (λ (xs : List Coord). fold longer None (map (live_points whole block) xs)) (filter_more test coords i at below)
    ∙ ap (λ (x : Coord). fold longer None (map (live_points whole block) (filter test (take i coords) ++ cond (test x) (x ∷ []) []))) (sym is)
    ∙ length_by number all block whole (filter test (take i coords)) at (test at)

-- ---- the points that a block gains
rows_between : (p from to : ℕ) → from ≤ to → ltb p to ≡ (ltb p from || (leb from p && ltb p to))
rows_between p from to rise = elim (cases_lt p from) [
  | inl below ↦ lt-ltb p to (omega arith) ∙ sym (ap (λ (b : Bool). b || (leb from p && ltb p to)) (lt-ltb p from below))
  | inr past ↦ sym (ap (λ (b : Bool). b || (leb from p && ltb p to)) (le-ltb p from past) ∙ ap (λ (b : Bool). b && ltb p to) (le-leb from p past))
]

pub rows_gain : (contained contained' inside : Bool) (number other : ℕ) (length other_length : Option ℕ) (reach from to p : ℕ) → contained ≡ (inside && ltb p (unwrap_or other_length 0)) → contained' ≡ (contained || (inside && (eqb number other && (leb from p && ltb p to)))) → from ≡ unwrap_or length 0 → to ≡ max from reach → from ≤ to → (number ≡ other → length ≡ other_length) → contained' ≡ (inside && ltb p (unwrap_or (cond (eqb number other) (longer other_length reach) other_length) 0))
rows_gain contained contained' false number other length other_length reach from to p before after is_from is_to rise same = after ∙ ap (λ (b : Bool). b || false) before
rows_gain contained contained' true number other length other_length reach from to p before after is_from is_to rise same = elim (cases_eq number other) [
  | inl equal ↦ (
      let here = eq-eqb number other equal in
      let old : unwrap_or other_length 0 ≡ from = ap (λ (l : Option ℕ). unwrap_or l 0) (sym (same equal)) ∙ sym is_from in
      let now : max (unwrap_or other_length 0) reach ≡ to = ap (λ k. max k reach) old ∙ sym is_to in
      after
      ∙ ap (λ (b : Bool). b || (eqb number other && (leb from p && ltb p to))) before
      ∙ ap (λ (b : Bool). ltb p (unwrap_or other_length 0) || (b && (leb from p && ltb p to))) here
      ∙ ap (λ k. ltb p k || (leb from p && ltb p to)) old
      ∙ sym (rows_between p from to rise)
      ∙ ap (ltb p) (sym now)
      ∙ sym (ap (λ (b : Bool). ltb p (unwrap_or (cond b (longer other_length reach) other_length) 0)) here)
      )
  | inr apart ↦ (
      let elsewhere = ne_eqb number other apart in
      after
      ∙ ap (λ (b : Bool). b || (eqb number other && (leb from p && ltb p to))) before
      ∙ ap (λ (b : Bool). ltb p (unwrap_or other_length 0) || (b && (leb from p && ltb p to))) elsewhere
      ∙ or_false (ltb p (unwrap_or other_length 0))
      ∙ sym (ap (λ (b : Bool). ltb p (unwrap_or (cond b (longer other_length reach) other_length) 0)) elsewhere)
      )
]
  where
    or_false : (b : Bool) → (b || false) ≡ b
    or_false true = refl
    or_false false = refl

-- one more row of a block, if no other row is that of this place
pub row_more : (contained contained' old inside same : Bool) (r n from p place : ℕ) → contained' ≡ cond (is_at (nat_cmp n) r) true contained → contained ≡ (old || (inside && (same && (leb from place && ltb place p)))) → from ≤ p → (r ≡ n → (inside ≡ true) × (same ≡ true) × (place ≡ p)) → (inside ≡ true → same ≡ true → place ≡ p → r ≡ n) → contained' ≡ (old || (inside && (same && (leb from place && ltb place (p + 1)))))
row_more contained contained' old inside same r n from p place after before rise here unique = elim (cases_eq r n) [
  | inl equal ↦ (
      let facts = here equal in
      let test : is_at (nat_cmp n) r ≡ true = is_eq-nat_cmp n r ∙ eq-eqb n r (sym equal) in
      let place_is : place ≡ p = facts.2 in
      let low : leb from place ≡ true = le-leb from place (omega arith) in
      let high : ltb place (p + 1) ≡ true = lt-ltb place (p + 1) (omega arith) in
      after ∙ cond-true (is_at (nat_cmp n) r) true contained test
      ∙ sym (
      ap (λ (b : Bool). old || (b && (same && (leb from place && ltb place (p + 1))))) facts.0
      ∙ ap (λ (b : Bool). old || (b && (leb from place && ltb place (p + 1)))) facts.1
      ∙ ap (λ (b : Bool). old || (b && ltb place (p + 1))) low
      ∙ ap (λ (b : Bool). old || b) high
      ∙ or_true old)
      )
  | inr apart ↦ (
      let test : is_at (nat_cmp n) r ≡ false = is_eq-nat_cmp n r ∙ ne_eqb n r (λ e. apart (sym e)) in
      after ∙ cond-false (is_at (nat_cmp n) r) true contained test ∙ before
      ∙ ap (λ (b : Bool). old || b) (one_further inside same apart)
      )
]
  where
    or_true : (b : Bool) → (b || true) ≡ true
    or_true true = refl
    or_true false = refl

    further : (place ≡ p → ⊥) → ltb place p ≡ ltb place (p + 1)
    further other = same_tests (ltb place p) (ltb place (p + 1))
        (λ lt. lt-ltb place (p + 1) (let h = ltb-true place p lt in omega arith))
        (λ lt. lt-ltb place p (let h = ltb-true place (p + 1) lt in omega arith))

    one_further : (inside' same' : Bool) → (r ≡ n → ⊥) → (inside && (same && (leb from place && ltb place p))) ≡ (inside && (same && (leb from place && ltb place (p + 1))))
    one_further inside' same' apart = elim (cases_Bool inside) [
      | inl is_inside ↦ elim (cases_Bool same) [
        | inl is_same ↦ ap (λ (b : Bool). inside && (same && (leb from place && b))) (further (λ at_place. apart (unique is_inside is_same at_place)))
        | inr not_same ↦ ap (λ (b : Bool). inside && (b && (leb from place && ltb place p))) not_same ∙ ap (λ (b : Bool). inside && (b && (leb from place && ltb place (p + 1)))) (sym not_same)
      ]
      | inr outside ↦ ap (λ (b : Bool). b && (same && (leb from place && ltb place p))) outside ∙ ap (λ (b : Bool). b && (same && (leb from place && ltb place (p + 1)))) (sym outside)
    ]

-- a place in a block is that of one coordinate
same_part : (x y s : ℕ) → x / s ≡ y / s → x % s ≡ y % s → x ≡ y
same_part x y s quotient rest = sym (div-add-mod' x s) ∙ ap (λ k. k * s + x % s) quotient ∙ ap (λ k. y / s * s + k) rest ∙ div-add-mod' y s

pub same_place : (all block : Bounds) (x y : Coord) → PointOfRow → IsCut all block → Inside all x → Inside all y → block_number all block x ≡ block_number all block y → row_in_block block x ≡ row_in_block block y → x ≡ y
same_place all block x y point_of_row cut x_in y_in same_block same =
    let runs = same_runs_from_block all block x y point_of_row cut x_in y_in same_block in
    let rests : within block x ≡ within block y =
    sym (point_of_row block (within block x) (within_inside all block x cut x_in)) ∙ ap (point_at block) same ∙ point_of_row block (within block y) (within_inside all block y cut y_in) in
    same_parts x y (x_in.same_axes ∙ sym y_in.same_axes)
    (part_is x.a x_in.a_low ∙ ap pos (same_part (count_of x.a) (count_of y.a) block.a runs.a_run (ap (λ (p : Coord). count_of p.a) rests)) ∙ sym (part_is y.a y_in.a_low))
    (part_is x.b x_in.b_low ∙ ap pos (same_part (count_of x.b) (count_of y.b) block.b runs.b_run (ap (λ (p : Coord). count_of p.b) rests)) ∙ sym (part_is y.b y_in.b_low))
    (part_is x.c x_in.c_low ∙ ap pos (same_part (count_of x.c) (count_of y.c) block.c runs.c_run (ap (λ (p : Coord). count_of p.c) rests)) ∙ sym (part_is y.c y_in.c_low))

pub same_row : (all block : Bounds) (r n : ℕ) → PointOfRow → RowOfPoint → PointInside → IsCut all block → r < volume all → n < volume all → block_number all block (point_at all r) ≡ block_number all block (point_at all n) → row_in_block block (point_at all r) ≡ row_in_block block (point_at all n) → r ≡ n
same_row all block r n point_of_row row_of_point point_inside cut r_below n_below same_block same =
    sym (row_of_point all r r_below)
    ∙ ap (row_of all) (same_place all block (point_at all r) (point_at all n) point_of_row cut (point_inside all r r_below) (point_inside all n n_below) same_block same)
    ∙ row_of_point all n n_below

-- ---- what a list reaches, by each of its coordinates
ltb-max : (p a b : ℕ) → ltb p (max a b) ≡ (ltb p a || ltb p b)
ltb-max p a b = elim (cases_lt p a) [
  | inl below ↦ lt-ltb p (max a b) (omega arith) ∙ sym (ap (λ (t : Bool). t || ltb p b) (lt-ltb p a below))
  | inr past ↦ sym (ap (λ (t : Bool). t || ltb p b) (le-ltb p a past)
      ∙ same_tests (ltb p b) (ltb p (max a b)) (λ t. lt-ltb p (max a b) (let h = ltb-true p b t in omega arith)) (λ t. lt-ltb p b (let h = ltb-true p (max a b) t in omega arith)))
]

or_assoc : (a b c : Bool) → ((a || b) || c) ≡ (a || (b || c))
or_assoc true b c = refl
or_assoc false b c = refl

reached_by : {X : Type 0} (test : X → Bool) (reach : X → ℕ) (p : ℕ) (length : Option ℕ) (xs : List X) → ltb p (unwrap_or (fold longer length (map reach (filter test xs))) 0) ≡ (ltb p (unwrap_or length 0) || list_any (λ x. test x && ltb p (reach x)) xs)
reached_by test reach p length [] = sym (or_false (ltb p (unwrap_or length 0)))
  where
    or_false : (b : Bool) → (b || false) ≡ b
    or_false true = refl
    or_false false = refl
reached_by {X} test reach p length (x ∷ xs) =
    elim (test x) as (λ (t : Bool). ltb p (unwrap_or (fold longer length (map reach (cond t (x ∷ filter test xs) (filter test xs)))) 0) ≡ (ltb p (unwrap_or length 0) || ((t && ltb p (reach x)) || list_any (λ (y : X). test y && ltb p (reach y)) xs))) [
      | true ↦ reached_by test reach p (longer length (reach x)) xs
          ∙ ap (λ (b : Bool). b || list_any (λ (y : X). test y && ltb p (reach y)) xs) (ltb-max p (unwrap_or length 0) (reach x))
          ∙ or_assoc (ltb p (unwrap_or length 0)) (ltb p (reach x)) (list_any (λ (y : X). test y && ltb p (reach y)) xs)
      | false ↦ reached_by test reach p length xs
    ]

pub is_reached-any : (all block : Bounds) (whole : Bool) (coords : List Coord) (at : Coord) → is_reached all block whole coords at ≡ list_any (λ (w : Coord). eqb (block_number all block w) (block_number all block at) && ltb (row_in_block block at) (live_points whole block w)) coords
is_reached-any all block whole coords at =
    reached_by (λ (w : Coord). eqb (block_number all block w) (block_number all block at)) (live_points whole block) (row_in_block block at) None coords
    ∙ ap (λ (b : Bool). b || list_any (λ (w : Coord). eqb (block_number all block w) (block_number all block at) && ltb (row_in_block block at) (live_points whole block w)) coords) (le-ltb (row_in_block block at) 0 (omega arith))

-- tests that agree at each element of a list
pub list_any-agree : {X : Type 0} (P : X → Type 0) (f g : X → Bool) (xs : List X) → ((x : X) → P x → f x ≡ g x) → All P xs → list_any f xs ≡ list_any g xs
list_any-agree P f g [] agree all = refl
list_any-agree P f g (x ∷ xs) agree all =
    ap (λ (b : Bool). b || list_any f xs) (agree x (All-head P x xs all))
    ∙ ap (λ (b : Bool). g x || b) (list_any-agree P f g xs agree (All-tail P x xs all))

pub filter-agree : {X : Type 0} (P : X → Type 0) (f g : X → Bool) (xs : List X) → ((x : X) → P x → f x ≡ g x) → All P xs → filter f xs ≡ filter g xs
filter-agree P f g [] agree all = refl
filter-agree {X} P f g (x ∷ xs) agree all =
    let rest : filter f xs ≡ filter g xs = filter-agree P f g xs agree (All-tail P x xs all) in
    ap (λ (b : Bool). cond b (x ∷ filter f xs) (filter f xs)) (agree x (All-head P x xs all))
    ∙ ap (λ (ys : List X). cond (g x) (x ∷ ys) ys) rest
