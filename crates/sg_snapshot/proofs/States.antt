-- The image of a state is restored to it, and what is restored has the bytes as its image.
use Rattle.std.proofs.Common.{◌≡◌, ℕ, zero, suc, ◌+◌, ◌^◌, ◌<◌, ◌≤◌, Bool, true, false, ◌&&◌, cond, eqb, ltb, leb, List, [], ◌∷◌, ◌++◌, map, length, get_or, Option, Some, None, Result, Ok, refl, sym, ap, ap₂, ◌∙◌, subst, arith}
use Rattle.std.specs.Prelude.{All, Contains, filter}
use Rattle.std.specs.List.{AllByRecursion, concat, range_with_len, list_all}
use Rattle.std.specs.Option.{option_or}
use Rattle.std.proofs.lemmas.Bool.{cond-true, and_from, and_parts, leb-true, ltb-true, le-leb, lt-ltb}
use Rattle.std.proofs.lemmas.List.{length-map}
use Rattle.std.proofs.lemmas.List.Elements.{All-nil, All-cons, All-head, All-tail, All-map, All-append}
use Rattle.std.proofs.lemmas.Slice.Eq.{bytes_eq-Decides}
use Rattle.sg_words.specs.Results.{fault_or}
use Rattle.sg_coord.specs.declared.coord.Coord.{Coord}
use Rattle.sg_coord.specs.Bounds.{Bounds, volume}
use Rattle.sg_coord.specs.Coord.{is_inside, row_of, point_at}
use Rattle.sg_layout.specs.declared.shape.Shape.{Shape}
use Rattle.sg_layout.specs.Accepted.{IsAccepted}
use Rattle.sg_layout.specs.Axes.{bounds_of_shape}
use Rattle.sg_layout.specs.Closure.{is_in_closure, closure}
use Rattle.sg_layout.specs.ClosureLaws.{ClosureIsInside}
use Rattle.sg_layout.specs.Need.{first_full}
use Rattle.sg_layout.proofs.Uses.{volume_slots, slots_few}
use Rattle.sg_flat.specs.declared.state.FlatLayout.{FlatLayout}
use Rattle.sg_flat.specs.declared.state.FlatState.{FlatState}
use Rattle.sg_flat.specs.State.{IsFlatField, IsFlatLayout, AreFlatLayouts, value_in}
use Rattle.sg_flat.specs.Words.{are_words, word_at}
use Rattle.sg_snapshot.specs.declared.fault.SnapFault.{SnapFault}
use Rattle.sg_snapshot.specs.Image.{part_of, parts_of}
use Rattle.sg_snapshot.specs.Parts.{frame_of, frames_of, are_rows, IsPart, AreParts, part_numbers, parts_numbers, parts_bytes, parts_in}
use Rattle.sg_snapshot.specs.Restoring.{points_in, layouts_of, is_closed, full_fault, first_open, first_too_full, state_of}
use Rattle.sg_snapshot.specs.SnapLaws.{Fits, ImageIsRestored}
use Rattle.sg_snapshot.proofs.PartsRead.{parts_come_back}
use Rattle.sg_snapshot.proofs.Layouts.{points_back, layout_back}
use Rattle.sg_snapshot.proofs.Laying.{PointLaws}

-- ---- the rows of a closure
later_rows : (least more size : ℕ) (rows : List ℕ) → least ≤ more → are_rows more size rows ≡ true → are_rows least size rows ≡ true
later_rows least more size [] order is = refl
later_rows least more size (row ∷ rows) order is =
    let parts = and_parts (leb more row) (ltb row size && are_rows (suc row) size rows) is in
    and_from (leb least row) (ltb row size && are_rows (suc row) size rows) (le-leb least row (let low = leb-true more row parts.0 in omega arith)) parts.1

kept_rows : PointLaws → (b : Bounds) (test : Coord → Bool) (from many : ℕ) → from + many ≤ volume b → are_rows from (volume b) (map (row_of b) (filter test (map (point_at b) (range_with_len from many)))) ≡ true
kept_rows laws b test from zero within = refl
kept_rows laws b test from (suc many) within = by_test (test (point_at b from)) (kept_rows laws b test (from + 1) many (omega arith))
  where
    by_test : (t : Bool) → are_rows (from + 1) (volume b) (map (row_of b) (filter test (map (point_at b) (range_with_len (from + 1) many)))) ≡ true
        → are_rows from (volume b) (map (row_of b) (cond t (point_at b from ∷ filter test (map (point_at b) (range_with_len (from + 1) many))) (filter test (map (point_at b) (range_with_len (from + 1) many))))) ≡ true
    by_test false later = later_rows from (from + 1) (volume b) (map (row_of b) (filter test (map (point_at b) (range_with_len (from + 1) many)))) (omega arith) later
    by_test true later =
        let tail = map (row_of b) (filter test (map (point_at b) (range_with_len (from + 1) many))) in
        let back : row_of b (point_at b from) ≡ from = laws.row_of_point b from (omega arith) in
        let more : are_rows (suc from) (volume b) tail ≡ true = ap (λ (n : ℕ). are_rows n (volume b) tail) (let e : suc from ≡ from + 1 = omega arith in e) ∙ later in
        ap (λ (row : ℕ). are_rows from (volume b) (row ∷ tail)) back
        ∙ and_from (leb from from) (ltb from (volume b) && are_rows (suc from) (volume b) tail) (le-leb from from (omega arith))
        (and_from (ltb from (volume b)) (are_rows (suc from) (volume b) tail) (lt-ltb from (volume b) (omega arith)) more)

closure_rows : PointLaws → (shape : Shape) (written : List Coord) → are_rows 0 (volume (bounds_of_shape shape)) (map (row_of (bounds_of_shape shape)) (closure shape written)) ≡ true
closure_rows laws shape written = kept_rows laws (bounds_of_shape shape) (is_in_closure shape written) 0 (volume (bounds_of_shape shape)) (omega arith)

-- rows that rise below a size are no more than that
few_rows : (least size : ℕ) (rows : List ℕ) → are_rows least size rows ≡ true → least ≤ size → length rows + least ≤ size
few_rows least size [] is order = omega arith
few_rows least size (row ∷ rows) is order =
    let one = and_parts (leb least row) (ltb row size && are_rows (suc row) size rows) is in
    let two = and_parts (ltb row size) (are_rows (suc row) size rows) one.1 in
    let low = leb-true least row one.0 in
    let high = ltb-true row size two.0 in
    let rest = few_rows (suc row) size rows two.1 (omega arith) in
    omega arith

rows_small : (least size most : ℕ) (rows : List ℕ) → size ≤ most → are_rows least size rows ≡ true → All (λ row. row < most) rows
rows_small least size most [] few is = All-nil (λ (row : ℕ). row < most)
rows_small least size most (row ∷ rows) few is =
    let one = and_parts (leb least row) (ltb row size && are_rows (suc row) size rows) is in
    let two = and_parts (ltb row size) (are_rows (suc row) size rows) one.1 in
    All-cons (λ (r : ℕ). r < most) row rows (let high = ltb-true row size two.0 in omega arith) (rows_small (suc row) size most rows few two.1)

few_points : (shape : Shape) → IsAccepted shape → volume (bounds_of_shape shape) ≤ 2 ^ 30
few_points shape is = let few = slots_few shape is in let same = volume_slots shape is in omega arith

-- ---- the parts of a flat state are parts
active_rows : PointLaws → (shape : Shape) (flat : FlatLayout) → IsFlatLayout shape flat → are_rows 0 (volume (bounds_of_shape shape)) (part_of shape flat).rows ≡ true
active_rows laws shape flat is =
    ap (λ (list : List Coord). are_rows 0 (volume (bounds_of_shape shape)) (map (row_of (bounds_of_shape shape)) list)) is.closed ∙ closure_rows laws shape flat.active

part_is : PointLaws → (shape : Shape) (flat : FlatLayout) → IsFlatLayout shape flat → IsPart (frame_of shape) (part_of shape flat)
part_is laws shape flat is =
    let b = bounds_of_shape shape in
    record {
      rows = active_rows laws shape flat is;
      fields = length-map flat.fields (λ (words : List (ℕ × ℕ)). map (value_in b words) flat.active) ∙ is.field_count;
      words = All-map (λ (list : List ℕ). length list ≡ length (part_of shape flat).rows) (λ (words : List (ℕ × ℕ)). map (value_in b words) flat.active) flat.fields
          (λ k d below. length-map flat.active (value_in b (get_or flat.fields k d)) ∙ sym (length-map flat.active (row_of b)));
    }

parts_are_so : PointLaws → (shapes : List Shape) (flats : List FlatLayout) → AreFlatLayouts shapes flats → AreParts (frames_of shapes) (parts_of shapes flats)
parts_are_so laws [] [] are = tt
parts_are_so laws [] (flat ∷ flats) are = absurd are
parts_are_so laws (shape ∷ shapes) [] are = absurd are
parts_are_so laws (shape ∷ shapes) (flat ∷ flats) are = (part_is laws shape flat are.0, parts_are_so laws shapes flats are.1)

-- ---- their numbers are small
abbrev IsSmall : ℕ → Type 0
IsSmall number = number < 2 ^ 32

word_small : (words : List (ℕ × ℕ)) (row : ℕ) → are_words words ≡ true → IsSmall (word_at words row)
word_small [] row is = omega arith
word_small (entry ∷ words) row is =
    let parts = and_parts (ltb entry.1 (2 ^ 32)) (list_all (λ (e : ℕ × ℕ). ltb e.1 (2 ^ 32)) words) is in
    by_test (eqb entry.0 row) parts.0 (word_small words row parts.1)
  where
    by_test : (t : Bool) → ltb entry.1 (2 ^ 32) ≡ true → IsSmall (word_at words row) → IsSmall (cond t entry.1 (word_at words row))
    by_test true here later = ltb-true entry.1 (2 ^ 32) here
    by_test false here later = later

value_small : (b : Bounds) (words : List (ℕ × ℕ)) (at : Coord) → are_words words ≡ true → IsSmall (value_in b words at)
value_small b words at is = by_test (is_inside b at)
  where
    by_test : (t : Bool) → IsSmall (cond t (word_at words (row_of b at)) 0)
    by_test true = word_small words (row_of b at) is
    by_test false = omega arith

fields_small : (shape : Shape) (active : List Coord) (fields : List (List (ℕ × ℕ))) → All (IsFlatField shape active) fields → All IsSmall (concat (map (λ (words : List (ℕ × ℕ)). map (value_in (bounds_of_shape shape) words) active) fields))
fields_small shape active [] fit = All-nil IsSmall
fields_small shape active (words ∷ fields) fit =
    let b = bounds_of_shape shape in
    All-append IsSmall (map (value_in b words) active) (concat (map (λ (ws : List (ℕ × ℕ)). map (value_in b ws) active) fields))
    (All-map IsSmall (value_in b words) active (λ k d below. value_small b words (get_or active k d) (All-head (IsFlatField shape active) words fields fit).in_range))
    (fields_small shape active fields (All-tail (IsFlatField shape active) words fields fit))

part_small : PointLaws → (shape : Shape) (flat : FlatLayout) → IsAccepted shape → IsFlatLayout shape flat → All IsSmall (part_numbers (part_of shape flat))
part_small laws shape flat accepted is =
    let part = part_of shape flat in
    let size = volume (bounds_of_shape shape) in
    let rise = active_rows laws shape flat is in
    let few = few_points shape accepted in
    let many = few_rows 0 size part.rows rise (omega arith) in
    All-cons IsSmall (length part.rows) (part.rows ++ concat part.words) (omega arith)
    (All-append IsSmall part.rows (concat part.words) (rows_small 0 size (2 ^ 32) part.rows (omega arith) rise) (fields_small shape flat.active flat.fields is.fields_fit))

parts_small : PointLaws → (shapes : List Shape) (flats : List FlatLayout) → AllByRecursion IsAccepted shapes → AreFlatLayouts shapes flats → All IsSmall (parts_numbers (parts_of shapes flats))
parts_small laws [] [] accepted are = All-nil IsSmall
parts_small laws [] (flat ∷ flats) accepted are = absurd are
parts_small laws (shape ∷ shapes) [] accepted are = absurd are
parts_small laws (shape ∷ shapes) (flat ∷ flats) accepted are =
    All-append IsSmall (part_numbers (part_of shape flat)) (parts_numbers (parts_of shapes flats)) (part_small laws shape flat accepted.0 are.0) (parts_small laws shapes flats accepted.1 are.1)

parts_long : (shapes : List Shape) (flats : List FlatLayout) → AreFlatLayouts shapes flats → length (parts_of shapes flats) ≡ length shapes
parts_long [] [] are = refl
parts_long [] (flat ∷ flats) are = absurd are
parts_long (shape ∷ shapes) [] are = absurd are
parts_long (shape ∷ shapes) (flat ∷ flats) are = ap suc (parts_long shapes flats are.1)

-- ---- no fault, and the state again
abbrev InsideLaw : Type 0
InsideLaw = (shape : Shape) → ClosureIsInside shape

points_are : PointLaws → InsideLaw → (shape : Shape) (flat : FlatLayout) → IsFlatLayout shape flat → points_in shape (part_of shape flat) ≡ flat.active
points_are laws inside shape flat is =
    points_back (bounds_of_shape shape) laws.point_of_row flat.active (λ at has. (inside shape flat.active at (subst (λ (l : List Coord). Contains l at) is.closed has)).1)

none_open : PointLaws → InsideLaw → (shapes : List Shape) (flats : List FlatLayout) (number : ℕ) → AreFlatLayouts shapes flats → first_open number shapes (parts_of shapes flats) ≡ None
none_open laws inside [] [] number are = refl
none_open laws inside [] (flat ∷ flats) number are = absurd are
none_open laws inside (shape ∷ shapes) [] number are = absurd are
none_open laws inside (shape ∷ shapes) (flat ∷ flats) number are =
    let b = bounds_of_shape shape in
    let part = part_of shape flat in
    let closed : map (row_of b) (closure shape (points_in shape part)) ≡ part.rows = ap (map (row_of b)) (ap (closure shape) (points_are laws inside shape flat are.0) ∙ sym are.0.closed) in
    cond-true (is_closed shape part) (first_open (suc number) shapes (parts_of shapes flats)) _ ((bytes_eq-Decides (map (row_of b) (closure shape (points_in shape part))) part.rows).1 closed)
    ∙ none_open laws inside shapes flats (suc number) are.1

none_full : PointLaws → InsideLaw → (shapes : List Shape) (flats : List FlatLayout) (number : ℕ) → AreFlatLayouts shapes flats → Fits shapes flats → first_too_full number shapes (parts_of shapes flats) ≡ None
none_full laws inside [] [] number are fits = refl
none_full laws inside [] (flat ∷ flats) number are fits = absurd are
none_full laws inside (shape ∷ shapes) [] number are fits = absurd are
none_full laws inside (shape ∷ shapes) (flat ∷ flats) number are fits =
    ap (λ (o : Option SnapFault). option_or o (first_too_full (suc number) shapes (parts_of shapes flats)))
    (ap (full_fault number) (ap (first_full shape) (points_are laws inside shape flat are.0) ∙ fits.0))
    ∙ none_full laws inside shapes flats (suc number) are.1 fits.1

layouts_back : PointLaws → InsideLaw → (shapes : List Shape) (flats : List FlatLayout) → AreFlatLayouts shapes flats → layouts_of shapes (parts_of shapes flats) ≡ flats
layouts_back laws inside [] [] are = refl
layouts_back laws inside [] (flat ∷ flats) are = absurd are
layouts_back laws inside (shape ∷ shapes) [] are = absurd are
layouts_back laws inside (shape ∷ shapes) (flat ∷ flats) are =
    ap₂ (λ (x : FlatLayout) (xs : List FlatLayout). x ∷ xs) (layout_back laws.inside_test laws.point_of_row laws.row_of_point shape (inside shape) flat are.0) (layouts_back laws inside shapes flats are.1)

state_with : List FlatLayout → Result FlatState SnapFault
state_with flats = Ok (record { layouts = flats })

pub image_restored : PointLaws → InsideLaw → ImageIsRestored
unfolding state_with
image_restored laws inside shapes state few accepted flat fits =
    let parts = parts_of shapes state.layouts in
    let read : parts_in (frames_of shapes) (parts_bytes parts) ≡ Some parts =
    parts_come_back (frames_of shapes) parts (parts_are_so laws shapes state.layouts flat)
    (All-cons IsSmall (length parts) (parts_numbers parts) (let long = parts_long shapes state.layouts flat in omega arith) (parts_small laws shapes state.layouts accepted flat)) in
    ap (state_of shapes) read
    ∙ ap (λ (o : Option SnapFault). fault_or o (fault_or (first_too_full 0 shapes parts) (state_with (layouts_of shapes parts)))) (none_open laws inside shapes state.layouts 0 flat)
    ∙ ap (λ (o : Option SnapFault). fault_or o (state_with (layouts_of shapes parts))) (none_full laws inside shapes state.layouts 0 flat fits)
    ∙ ap state_with (layouts_back laws inside shapes state.layouts flat)
