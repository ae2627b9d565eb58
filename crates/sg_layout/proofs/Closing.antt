-- The laws of closures.
use Rattle.std.proofs.Common.{◌≡◌, Bool, true, ◌||◌, List, [], ◌++◌, eqb, sym, ap, ◌∙◌, inl, inr, ◌⊎◌}
use Rattle.std.specs.List.{Contains}
use Rattle.std.proofs.lemmas.Bool.{and_parts, and_from, or_cases, or_left, or_right}
use Rattle.std.proofs.lemmas.List.Elements.{filter_agree, Contains-append_left, Contains-append_right, Contains-append_cases}
use Rattle.std.proofs.lemmas.List.{append-nil}
use Rattle.sg_coord.specs.declared.coord.Coord.{Coord}
use Rattle.sg_coord.specs.Coord.{is_inside, ComesBefore}
use Rattle.sg_coord.specs.Laws.{InsideTest}
use Rattle.sg_layout.specs.declared.shape.Shape.{Shape}
use Rattle.sg_layout.specs.Axes.{bounds_of_shape}
use Rattle.sg_layout.specs.Path.{path}
use Rattle.sg_layout.specs.Live.{kind_at, is_live}
use Rattle.sg_layout.specs.Closure.{last_sparse, is_in_closure, points, closure}
use Rattle.sg_layout.specs.ClosureLaws.{PointsAreInside, PointsAreInOrder, ClosureIsTested, ClosureIsInside, ClosureIsInOrder, ClosureExtends, ClosureGrows, ClosureIsOfMembers, ClosureIsClosed, ClosureAbsorbs}
use Rattle.std.proofs.lemmas.List.Kept.{AllPairs-filter}
use Rattle.sg_words.proofs.Uses.{same_tests, from_filter, into_filter}
use Rattle.sg_layout.proofs.Slots.{live_itself, live_onward, MakesLive, from_live, into_live}

-- the slot of a coordinate at the last node that isn't dense is live for the list
abbrev is_active : Shape → List Coord → Coord → Bool
is_active shape written at = is_live shape written (last_sparse shape.nodes) (path shape at (last_sparse shape.nodes))

-- one coordinate makes the slot of another live, at that node
abbrev Activates : Shape → Coord → Coord → Type 0
Activates shape by at = MakesLive shape (last_sparse shape.nodes) (path shape at (last_sparse shape.nodes)) by

-- a coordinate is closed in a list if it is inside, and all nodes are dense or one of the list activates it
abbrev ByOne : Shape → List Coord → Coord → Type 0
ByOne shape written at = (by : Coord) × Contains written by × Activates shape by at

pub closed_parts : (shape : Shape) (written : List Coord) (at : Coord) → is_in_closure shape written at ≡ true → (is_inside (bounds_of_shape shape) at ≡ true) × ((eqb (last_sparse shape.nodes) 0 ≡ true) ⊎ ByOne shape written at)
closed_parts shape written at closed =
    let parts = and_parts (is_inside (bounds_of_shape shape) at) (eqb (last_sparse shape.nodes) 0 || is_active shape written at) closed in
    elim (or_cases (eqb (last_sparse shape.nodes) 0) (is_active shape written at) parts.1) [
      | inl dense ↦ (parts.0, inl dense)
      | inr active ↦ (parts.0, inr (from_live shape written (last_sparse shape.nodes) (path shape at (last_sparse shape.nodes)) active))
    ]

closed_dense : (shape : Shape) (written : List Coord) (at : Coord) → is_inside (bounds_of_shape shape) at ≡ true → eqb (last_sparse shape.nodes) 0 ≡ true → is_in_closure shape written at ≡ true
closed_dense shape written at inside dense =
    and_from (is_inside (bounds_of_shape shape) at) (eqb (last_sparse shape.nodes) 0 || is_active shape written at) inside
    (or_left (eqb (last_sparse shape.nodes) 0) (is_active shape written at) dense)

closed_by : (shape : Shape) (written : List Coord) (at by : Coord) → is_inside (bounds_of_shape shape) at ≡ true → Contains written by → Activates shape by at → is_in_closure shape written at ≡ true
closed_by shape written at by inside found activates =
    and_from (is_inside (bounds_of_shape shape) at) (eqb (last_sparse shape.nodes) 0 || is_active shape written at) inside
    (or_right (eqb (last_sparse shape.nodes) 0) (is_active shape written at)
    (into_live shape written (last_sparse shape.nodes) (path shape at (last_sparse shape.nodes)) by found activates))

activates_itself : (shape : Shape) (at : Coord) → Activates shape at at
activates_itself shape at = live_itself (kind_at shape.nodes (last_sparse shape.nodes)) (path shape at (last_sparse shape.nodes))

activates_onward : (shape : Shape) (x y z : Coord) → Activates shape x y → Activates shape y z → Activates shape x z
activates_onward shape x y z =
    live_onward (kind_at shape.nodes (last_sparse shape.nodes)) (path shape x (last_sparse shape.nodes)) (path shape y (last_sparse shape.nodes)) (path shape z (last_sparse shape.nodes))

-- each law, of the test
closed_grows : (shape : Shape) (few more : List Coord) → ((at : Coord) → Contains few at → Contains more at) → (at : Coord) → is_in_closure shape few at ≡ true → is_in_closure shape more at ≡ true
closed_grows shape few more all at closed =
    let parts = closed_parts shape few at closed in
    elim parts.1 [
      | inl dense ↦ closed_dense shape more at parts.0 dense
      | inr by ↦ closed_by shape more at by.0 parts.0 (all by.0 by.1) by.2
    ]

closed_itself : (shape : Shape) (written : List Coord) (at : Coord) → is_inside (bounds_of_shape shape) at ≡ true → Contains written at → is_in_closure shape written at ≡ true
closed_itself shape written at inside found = closed_by shape written at at inside found (activates_itself shape at)

-- what a member of the closure, or of the rest, activates
from_closing : (shape : Shape) (written more : List Coord) (at by : Coord) → is_inside (bounds_of_shape shape) at ≡ true → Contains (closure shape written) by → Activates shape by at → is_in_closure shape (written ++ more) at ≡ true
from_closing shape written more at by inside found activates =
    let closed = from_filter (is_in_closure shape written) (points (bounds_of_shape shape)) by found in
    let parts = closed_parts shape written by closed.1 in
    elim parts.1 [
      | inl dense ↦ closed_dense shape (written ++ more) at inside dense
      | inr first ↦ closed_by shape (written ++ more) at first.0 inside (Contains-append_left written more first.0 first.1) (activates_onward shape first.0 by at first.2 activates)
    ]

absorbed : (shape : Shape) (written more : List Coord) (at : Coord) → is_in_closure shape (closure shape written ++ more) at ≡ true → is_in_closure shape (written ++ more) at ≡ true
absorbed shape written more at closed =
    let parts = closed_parts shape (closure shape written ++ more) at closed in
    elim parts.1 [
      | inl dense ↦ closed_dense shape (written ++ more) at parts.0 dense
      | inr by ↦ elim (Contains-append_cases (closure shape written) more by.0 by.1) [
        | inl first ↦ from_closing shape written more at by.0 parts.0 first by.2
        | inr second ↦ closed_by shape (written ++ more) at by.0 parts.0 (Contains-append_right written more by.0 second) by.2
      ]
    ]

into_closure : (shape : Shape) (written : List Coord) (at : Coord) → Contains (points (bounds_of_shape shape)) at → is_in_closure shape written at ≡ true → Contains (closure shape written) at
into_closure shape written at = into_filter (is_in_closure shape written) (points (bounds_of_shape shape)) at

regained : (shape : Shape) (written more : List Coord) (at : Coord) → (is_inside (bounds_of_shape shape) at ≡ true → Contains (points (bounds_of_shape shape)) at) → is_in_closure shape (written ++ more) at ≡ true → is_in_closure shape (closure shape written ++ more) at ≡ true
regained shape written more at point closed =
    let parts = closed_parts shape (written ++ more) at closed in
    elim parts.1 [
      | inl dense ↦ closed_dense shape (closure shape written ++ more) at parts.0 dense
      | inr by ↦ elim (Contains-append_cases written more by.0 by.1) [
        | inl first ↦ closed_itself shape (closure shape written ++ more) at parts.0
            (Contains-append_left (closure shape written) more at
            (into_closure shape written at (point parts.0) (closed_by shape written at by.0 parts.0 first by.2)))
        | inr second ↦ closed_by shape (closure shape written ++ more) at by.0 parts.0 (Contains-append_right (closure shape written) more by.0 second) by.2
      ]
    ]

-- the laws
pub closure_is_tested : (shape : Shape) → InsideTest → PointsAreInside (bounds_of_shape shape) → ClosureIsTested shape
closure_is_tested shape test inside written at = (
  (λ found. (from_filter (is_in_closure shape written) (points (bounds_of_shape shape)) at found).1),
  (λ closed. into_closure shape written at ((inside at).1 ((test (bounds_of_shape shape) at).0 (closed_parts shape written at closed).0)) closed),
)

pub closure_is_inside : (shape : Shape) → PointsAreInside (bounds_of_shape shape) → ClosureIsInside shape
closure_is_inside shape inside written at found =
    let point = (from_filter (is_in_closure shape written) (points (bounds_of_shape shape)) at found).0 in
    (point, (inside at).0 point)

pub closure_is_in_order : (shape : Shape) → PointsAreInOrder (bounds_of_shape shape) → ClosureIsInOrder shape
closure_is_in_order shape order written = AllPairs-filter ComesBefore (is_in_closure shape written) (points (bounds_of_shape shape)) order

pub closure_extends : (shape : Shape) → InsideTest → PointsAreInside (bounds_of_shape shape) → ClosureExtends shape
closure_extends shape test points_inside written at found inside =
    into_closure shape written at ((points_inside at).1 inside) (closed_itself shape written at ((test (bounds_of_shape shape) at).1 inside) found)

pub closure_grows : (shape : Shape) → ClosureGrows shape
closure_grows shape few more all at found =
    let closed = from_filter (is_in_closure shape few) (points (bounds_of_shape shape)) at found in
    into_closure shape more at closed.0 (closed_grows shape few more all at closed.1)

pub closure_is_of_members : (shape : Shape) → ClosureIsOfMembers shape
closure_is_of_members shape left right same =
    filter_agree (is_in_closure shape left) (is_in_closure shape right)
    (λ at. same_tests (is_in_closure shape left at) (is_in_closure shape right at)
    (closed_grows shape left right (λ x. (same x).0) at)
    (closed_grows shape right left (λ x. (same x).1) at))
    (points (bounds_of_shape shape))

pub closure_absorbs : (shape : Shape) → InsideTest → PointsAreInside (bounds_of_shape shape) → ClosureAbsorbs shape
closure_absorbs shape test inside written more =
    filter_agree (is_in_closure shape (closure shape written ++ more)) (is_in_closure shape (written ++ more))
    (λ at. same_tests (is_in_closure shape (closure shape written ++ more) at) (is_in_closure shape (written ++ more) at)
    (absorbed shape written more at)
    (regained shape written more at (λ holds. (inside at).1 ((test (bounds_of_shape shape) at).0 holds))))
    (points (bounds_of_shape shape))

pub closure_is_closed : (shape : Shape) → InsideTest → PointsAreInside (bounds_of_shape shape) → ClosureIsClosed shape
closure_is_closed shape test inside written =
    sym (ap (closure shape) (append-nil (closure shape written))) ∙ closure_absorbs shape test inside written [] ∙ ap (closure shape) (append-nil written)
