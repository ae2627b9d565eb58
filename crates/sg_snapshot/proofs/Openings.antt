-- Whether the points of parts are closed, layout by layout.
use Rattle.std.proofs.Common.{◌≡◌, ℕ, zero, suc, ◌+◌, ◌<◌, ◌≤◌, inl, inr, Bool, true, false, ◌&&◌, cond, ltb, leb, List, [], ◌∷◌, map, length, get_or, drop, Option, Some, None, refl, sym, ap, ap₂, ◌∙◌, subst, arith}
use Rattle.std.specs.Prelude.{All}
use Rattle.std.specs.List.Sorted.{IsStrictlyIncreasing}
use Rattle.std.proofs.lemmas.Bool.{cases_Bool, cond-true, cond-false, and_parts, leb-true, ltb-true}
use Rattle.std.proofs.lemmas.List.{drop_more, drop_all}
use Rattle.std.proofs.lemmas.List.Elements.{All-nil, All-cons, All-head, All-tail}
use Rattle.std.proofs.lemmas.Slice.Eq.{bytes_eq-Decides}
use Rattle.sg_coord.specs.Bounds.{Bounds, volume}
use Rattle.sg_coord.specs.Coord.{row_of, point_at}
use Rattle.sg_coord.specs.Laws.{PointOfRow, RowOfPoint}
use Rattle.sg_layout.specs.declared.shape.Shape.{Shape}
use Rattle.sg_layout.specs.Axes.{bounds_of_shape}
use Rattle.sg_layout.specs.Closure.{closure}
use Rattle.sg_layout.specs.ClosureLaws.{ClosureIsInside}
use Rattle.sg_flat.specs.Closed.{AreClosed}
use Rattle.sg_snapshot.specs.declared.part.Part.{Part}
use Rattle.sg_snapshot.specs.declared.fault.SnapFault.{SnapFault}
use Rattle.sg_snapshot.specs.declared.fault.SnapFault.TheVariants.{NotClosed}
use Rattle.sg_snapshot.specs.Parts.{frame_of, frames_of, are_rows, IsPart, AreParts}
use Rattle.sg_snapshot.specs.Restoring.{points_in, is_closed, first_open}
use Rattle.sg_snapshot.proofs.Layouts.{points_back}

-- ---- rows that rise
abbrev AreBelow : ℕ → List ℕ → Type 0
AreBelow size rows = All (λ row. row < size) rows

abbrev AreFrom : ℕ → List ℕ → Type 0
AreFrom least rows = All (λ row. least ≤ row) rows

record AreRising (least size : ℕ) (rows : List ℕ) : Type 0 where
  rise : IsStrictlyIncreasing rows
  below : AreBelow size rows
  from : AreFrom least rows

rising : (least size : ℕ) (rows : List ℕ) → are_rows least size rows ≡ true → AreRising least size rows
rising least size [] is = record { rise = λ k below. absurd (omega arith); below = All-nil (λ (row : ℕ). row < size); from = All-nil (λ (row : ℕ). least ≤ row) }
rising least size (row ∷ rows) is =
    let first = and_parts (leb least row) (ltb row size && are_rows (suc row) size rows) is in
    let second = and_parts (ltb row size) (are_rows (suc row) size rows) first.1 in
    let low : least ≤ row = leb-true least row first.0 in
    let high : row < size = ltb-true row size second.0 in
    let later = rising (suc row) size rows second.1 in
    record {
      rise = steps row rows later.rise later.from;
      below = All-cons (λ (r : ℕ). r < size) row rows high later.below;
      from = All-cons (λ (r : ℕ). least ≤ r) row rows low (λ k d below. let past = later.from k d below in omega arith);
    }
  where
    steps : (row : ℕ) (rows : List ℕ) → IsStrictlyIncreasing rows → AreFrom (suc row) rows → IsStrictlyIncreasing (row ∷ rows)
    steps row [] rise from k below = absurd (omega arith)
    steps row (next ∷ rows) rise from zero below = (let past = from 0 0 (omega arith) in omega arith)
    steps row (next ∷ rows) rise from (suc k) below =
        subst (λ (n : ℕ). get_or (next ∷ rows) k 0 < get_or (row ∷ (next ∷ rows)) n 0) (let e : suc (k + 1) ≡ suc k + 1 = omega arith in e) (rise k (omega arith))

pub rows_rise : (shape : Shape) (part : Part) → IsPart (frame_of shape) part → IsStrictlyIncreasing part.rows
rows_rise shape part is = (rising 0 (volume (bounds_of_shape shape)) part.rows is.rows).rise

pub rows_below : (shape : Shape) (part : Part) → IsPart (frame_of shape) part → All (λ row. row < volume (bounds_of_shape shape)) part.rows
rows_below shape part is = (rising 0 (volume (bounds_of_shape shape)) part.rows is.rows).below

-- ---- closed, as rows and as a test
-- rows come back from their points
pub rows_back : RowOfPoint → (b : Bounds) (rows : List ℕ) → AreBelow (volume b) rows → map (row_of b) (map (point_at b) rows) ≡ rows
rows_back back b [] below = refl
rows_back back b (row ∷ rows) below =
    ap₂ (λ (x : ℕ) (xs : List ℕ). x ∷ xs) (back b row (All-head (λ (r : ℕ). r < volume b) row rows below)) (rows_back back b rows (All-tail (λ (r : ℕ). r < volume b) row rows below))

pub closed_tests : RowOfPoint → (shape : Shape) (part : Part) → IsPart (frame_of shape) part → AreClosed shape part.rows → is_closed shape part ≡ true
closed_tests back shape part is closed =
    let b = bounds_of_shape shape in
    (bytes_eq-Decides (map (row_of b) (closure shape (points_in shape part))) part.rows).1 (ap (map (row_of b)) closed ∙ rows_back back b part.rows (rows_below shape part is))

pub tested_closed : PointOfRow → (shape : Shape) (part : Part) → ClosureIsInside shape → is_closed shape part ≡ true → AreClosed shape part.rows
tested_closed point shape part inside test =
    let b = bounds_of_shape shape in
    let same : map (row_of b) (closure shape (points_in shape part)) ≡ part.rows = (bytes_eq-Decides (map (row_of b) (closure shape (points_in shape part))) part.rows).0 test in
    sym (points_back b point (closure shape (points_in shape part)) (λ at has. (inside (points_in shape part) at has).1)) ∙ ap (map (point_at b)) same

-- ---- one layout after the other
pub part_at : (shapes : List Shape) (parts : List Part) (k : ℕ) (shape : Shape) (part : Part) → AreParts (frames_of shapes) parts → k < length parts → IsPart (frame_of (get_or shapes k shape)) (get_or parts k part)
part_at [] [] k shape part are below = absurd (omega arith)
part_at [] (p ∷ parts) k shape part are below = absurd are
part_at (s ∷ shapes) [] k shape part are below = absurd are
part_at (s ∷ shapes) (p ∷ parts) zero shape part are below = are.0
part_at (s ∷ shapes) (p ∷ parts) (suc k) shape part are below = part_at shapes parts k shape part are.1 (omega arith)

pub as_many : (shapes : List Shape) (parts : List Part) → AreParts (frames_of shapes) parts → length parts ≡ length shapes
as_many [] [] are = refl
as_many [] (p ∷ parts) are = absurd are
as_many (s ∷ shapes) [] are = absurd are
as_many (s ∷ shapes) (p ∷ parts) are = ap suc (as_many shapes parts are.1)

pub open_here : (shapes : List Shape) (parts : List Part) (k number : ℕ) (shape : Shape) (part : Part) → k < length shapes → k < length parts → shape ≡ get_or shapes k shape → part ≡ get_or parts k part
    → first_open number (drop k shapes) (drop k parts) ≡ cond (is_closed shape part) (first_open (suc number) (drop (k + 1) shapes) (drop (k + 1) parts)) (Some (NotClosed number))
open_here shapes parts k number shape part below also here there =
    ap (λ (ss : List Shape). first_open number ss (drop k parts)) (drop_more shapes k shape below ∙ ap (λ (s : Shape). s ∷ drop (k + 1) shapes) (sym here))
    ∙ ap (first_open number (shape ∷ drop (k + 1) shapes)) (drop_more parts k part also ∙ ap (λ (p : Part). p ∷ drop (k + 1) parts) (sym there))

pub open_none : (shapes : List Shape) (parts : List Part) (k : ℕ) (whole : Option SnapFault) → length shapes ≤ k → first_open k (drop k shapes) (drop k parts) ≡ whole → None ≡ whole
open_none shapes parts k whole past so_far = sym (ap (λ (ss : List Shape). first_open k ss (drop k parts)) (drop_all k shapes past)) ∙ so_far

-- where none is open, each is closed
pub closed_at : (shapes : List Shape) (parts : List Part) (number k : ℕ) (shape : Shape) (part : Part) → AreParts (frames_of shapes) parts → first_open number shapes parts ≡ None → k < length parts → is_closed (get_or shapes k shape) (get_or parts k part) ≡ true
closed_at [] [] number k shape part are none below = absurd (omega arith)
closed_at [] (p ∷ parts) number k shape part are none below = absurd are
closed_at (s ∷ shapes) [] number k shape part are none below = absurd are
closed_at (s ∷ shapes) (p ∷ parts) number k shape part are none below = by_test (is_closed s p) refl none (λ rest j low. closed_at shapes parts (suc number) j shape part are.1 rest low) k below
  where
    by_test : (t : Bool) → is_closed s p ≡ t → cond t (first_open (suc number) shapes parts) (Some (NotClosed number)) ≡ None
        → (first_open (suc number) shapes parts ≡ None → (j : ℕ) → j < length parts → is_closed (get_or shapes j shape) (get_or parts j part) ≡ true)
        → (j : ℕ) → j < length (p ∷ parts) → is_closed (get_or (s ∷ shapes) j shape) (get_or (p ∷ parts) j part) ≡ true
    by_test true is rest later zero low = is
    by_test true is rest later (suc j) low = later rest j (omega arith)
    by_test false is rest later j low = absurd (cc)

-- the first that isn't closed
pub open_no : (shapes : List Shape) (parts : List Part) (k number : ℕ) (shape : Shape) (part : Part) (whole : Option SnapFault) → k < length shapes → k < length parts → shape ≡ get_or shapes k shape → part ≡ get_or parts k part
    → is_closed shape part ≡ false → number ≡ k → first_open k (drop k shapes) (drop k parts) ≡ whole → Some (NotClosed number) ≡ whole
open_no shapes parts k number shape part whole below also here there unclosed same so_far =
    ap (λ (n : ℕ). let out : Option SnapFault = Some (NotClosed n) in out) same
    ∙ sym (cond-false (is_closed shape part) (first_open (suc k) (drop (k + 1) shapes) (drop (k + 1) parts)) (Some (NotClosed k)) unclosed)
    ∙ sym (open_here shapes parts k k shape part below also here there) ∙ so_far

pub open_yes : (shapes : List Shape) (parts : List Part) (k : ℕ) (shape : Shape) (part : Part) (whole : Option SnapFault) → k < length shapes → k < length parts → shape ≡ get_or shapes k shape → part ≡ get_or parts k part
    → is_closed shape part ≡ true → first_open k (drop k shapes) (drop k parts) ≡ whole → first_open (k + 1) (drop (k + 1) shapes) (drop (k + 1) parts) ≡ whole
open_yes shapes parts k shape part whole below also here there closed so_far =
    ap (λ (n : ℕ). first_open n (drop (k + 1) shapes) (drop (k + 1) parts)) (let e : k + 1 ≡ suc k = omega arith in e)
    ∙ sym (cond-true (is_closed shape part) (first_open (suc k) (drop (k + 1) shapes) (drop (k + 1) parts)) (Some (NotClosed k)) closed)
    ∙ sym (open_here shapes parts k k shape part below also here there) ∙ so_far

-- what isn't closed fails the test
pub open_tests : PointOfRow → (shape : Shape) (part : Part) → ClosureIsInside shape → (AreClosed shape part.rows → ⊥) → is_closed shape part ≡ false
open_tests point shape part inside unclosed = elim (cases_Bool (is_closed shape part)) [
  | inl passes ↦ absurd (unclosed (tested_closed point shape part inside passes))
  | inr fails ↦ fails
]

-- the part at a place is one of the layout there
pub part_here : (shapes : List Shape) (parts : List Part) (k : ℕ) (shape : Shape) (part : Part) → AreParts (frames_of shapes) parts → k < length parts → shape ≡ get_or shapes k shape → part ≡ get_or parts k part → IsPart (frame_of shape) part
part_here shapes parts k shape part are below here there =
    subst (λ (s : Shape). IsPart (frame_of s) part) (sym here) (subst (λ (p : Part). IsPart (frame_of (get_or shapes k shape)) p) (sym there) (part_at shapes parts k shape part are below))

pub closed_here : (shapes : List Shape) (parts : List Part) (k : ℕ) (shape : Shape) (part : Part) → AreParts (frames_of shapes) parts → first_open 0 shapes parts ≡ None → k < length parts → shape ≡ get_or shapes k shape → part ≡ get_or parts k part → is_closed shape part ≡ true
closed_here shapes parts k shape part are none below here there =
    ap₂ (λ (s : Shape) (p : Part). is_closed s p) here there ∙ closed_at shapes parts 0 k shape part are none below

-- rows of a part as a slice has them
pub rising_as : (shape : Shape) (part : Part) (rows : List ℕ) → IsPart (frame_of shape) part → rows ≡ part.rows → IsStrictlyIncreasing rows
rising_as shape part rows is same = subst IsStrictlyIncreasing (sym same) (rows_rise shape part is)

pub below_as : (shape : Shape) (part : Part) (rows : List ℕ) → IsPart (frame_of shape) part → rows ≡ part.rows → All (λ row. row < volume (bounds_of_shape shape)) rows
below_as shape part rows is same = subst (λ (r : List ℕ). All (λ row. row < volume (bounds_of_shape shape)) r) (sym same) (rows_below shape part is)
