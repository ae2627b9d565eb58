-- The laws of live slots.
use Rattle.std.proofs.Common.{◌≡◌, ◌≢◌, ℕ, zero, suc, ◌-◌, ◌<◌, ◌≤◌, true, false, List, [], ◌∷◌, ◌++◌, length, refl, sym, ◌∙◌, subst, arith, inl, inr}
use Rattle.std.specs.List.{Contains, slice_get}
use Rattle.std.proofs.lemmas.Bool.{eqb-true, cases_eq}
use Rattle.std.proofs.lemmas.List.Elements.{Contains-append_left, Contains-append_right, Contains-append_cases}
use Rattle.sg_coord.specs.declared.coord.Coord.{Coord}
use Rattle.sg_coord.specs.Laws.{InsideTest}
use Rattle.sg_layout.specs.declared.shape.Kind.{Kind}
use Rattle.sg_layout.specs.declared.shape.Kind.TheVariants.{Dense, Bitmasked, Pointer, Hash, Dynamic}
use Rattle.sg_layout.specs.declared.shape.NodeShape.{NodeShape}
use Rattle.sg_layout.specs.declared.shape.Shape.{Shape}
use Rattle.sg_layout.specs.Axes.{bounds_of_shape}
use Rattle.sg_layout.specs.Path.{path}
use Rattle.sg_layout.specs.Live.{makes_live, kind_or, kind_at, is_live}
use Rattle.sg_layout.specs.Closure.{is_dense, last_sparse, is_in_closure, closure}
use Rattle.sg_layout.specs.ClosureLaws.{PointsAreInside}
use Rattle.sg_layout.specs.NeedLaws.{AllInside}
use Rattle.sg_layout.specs.LiveLaws.{IsSparseNode, LiveGrows, LiveIsOfMembers, ClosureIsLive, LiveAbsorbs}
use Rattle.sg_words.proofs.Uses.{same_tests}
use Rattle.sg_layout.proofs.Slots.{live_itself, live_onward, from_live, into_live}
use Rattle.sg_layout.proofs.Closing.{closed_parts, closure_is_tested, closure_extends}
use Rattle.sg_layout.proofs.Deciding.{last_decides}
use Rattle.sg_layout.proofs.Needs.{path_front, path_long, live_take, sparse_first, sparse_more}

pub live_grows : (shape : Shape) → LiveGrows shape
live_grows shape few more all number slot live =
    let found = from_live shape few number slot live in
    into_live shape more number slot found.0 (all found.0 found.1) found.2

pub live_is_of_members : (shape : Shape) → LiveIsOfMembers shape
live_is_of_members shape left right same number slot =
    same_tests (is_live shape left number slot) (is_live shape right number slot)
    (live_grows shape left right (λ at. (same at).0) number slot)
    (live_grows shape right left (λ at. (same at).1) number slot)

-- a node that isn't dense stands at the last such node or before it
not_dense : (kind : Kind) → kind ≢ Dense → is_dense kind ≡ false
not_dense Dense other = absurd (other refl)
not_dense Bitmasked other = refl
not_dense Pointer other = refl
not_dense Hash other = refl
not_dense Dynamic other = refl

sparse_at : (nodes : List NodeShape) (k : ℕ) → k < length nodes → is_dense (kind_or (slice_get nodes k)) ≡ false → suc k ≤ last_sparse nodes
sparse_at [] k below sparse = absurd (omega arith)
sparse_at (first ∷ later) zero below sparse = sparse_first first later sparse
sparse_at (first ∷ later) (suc k) below sparse = sparse_more first later (suc k) (omega arith) (sparse_at later k (omega arith) sparse)

up_to_last : (shape : Shape) (number : ℕ) → IsSparseNode shape number → number ≤ last_sparse shape.nodes
up_to_last shape number is =
    let place : number - 1 < length shape.nodes = omega (arith, is.first, is.within) in
    let below = sparse_at shape.nodes (number - 1) place (not_dense (kind_at shape.nodes number) is.sparse) in
    omega (arith, is.first)

-- a coordinate that makes another's slot live at the last of these nodes does so at each
at_each : (shape : Shape) (number : ℕ) (by at : Coord) → 1 ≤ number → number ≤ last_sparse shape.nodes → last_sparse shape.nodes ≤ length shape.nodes → makes_live (kind_at shape.nodes (last_sparse shape.nodes)) (path shape by (last_sparse shape.nodes)) (path shape at (last_sparse shape.nodes)) ≡ true → makes_live (kind_at shape.nodes number) (path shape by number) (path shape at number) ≡ true
at_each shape number by at first below within live = elim (cases_eq number (last_sparse shape.nodes)) [
  | inl here ↦ subst (λ n. makes_live (kind_at shape.nodes n) (path shape by n) (path shape at n) ≡ true) (sym here) live
  | inr other ↦
      let l : ℕ = last_sparse shape.nodes in
      let before : number < l = omega (arith, other) in
      let long = path_long shape by l within in
      let front = live_take (kind_at shape.nodes l) (path shape by l) (path shape at l) number live (omega arith) in
      subst (λ p. makes_live (kind_at shape.nodes number) (path shape by number) p ≡ true)
      (path_front shape by number l below ∙ front ∙ sym (path_front shape at number l below))
      (live_itself (kind_at shape.nodes number) (path shape by number))
]

-- one of the list makes the slot of a coordinate in its closure live
abbrev ByOne : Shape → List Coord → ℕ → Coord → Type 0
ByOne shape written number at = (by : Coord) × Contains written by × (makes_live (kind_at shape.nodes number) (path shape by number) (path shape at number) ≡ true)

by_one : (shape : Shape) (written : List Coord) (at : Coord) → is_in_closure shape written at ≡ true → (number : ℕ) → IsSparseNode shape number → ByOne shape written number at
by_one shape written at closed number is =
    let below = up_to_last shape number is in
    let within = last_decides shape (omega (arith, is.first)) in
    let parts = closed_parts shape written at closed in
    elim parts.1 [
      | inl dense ↦ absurd (omega (arith, eqb-true (last_sparse shape.nodes) 0 dense, is.first))
      | inr by ↦ (by.0, by.1, at_each shape number by.0 at is.first below within.0 by.2)
    ]

pub closure_is_live : (shape : Shape) → ClosureIsLive shape
closure_is_live shape written at closed number is =
    let by = by_one shape written at closed number is in
    into_live shape written number (path shape at number) by.0 by.1 by.2

absorbed : (shape : Shape) → InsideTest → PointsAreInside (bounds_of_shape shape) → (written more : List Coord) (number : ℕ) → IsSparseNode shape number → (slot : List ℕ) → is_live shape (closure shape written ++ more) number slot ≡ true → is_live shape (written ++ more) number slot ≡ true
absorbed shape test inside written more number is slot live =
    let found = from_live shape (closure shape written ++ more) number slot live in
    elim (Contains-append_cases (closure shape written) more found.0 found.1) [
      | inl closed ↦
          let by = by_one shape written found.0 ((closure_is_tested shape test inside written found.0).0 closed) number is in
          into_live shape (written ++ more) number slot by.0 (Contains-append_left written more by.0 by.1)
          (live_onward (kind_at shape.nodes number) (path shape by.0 number) (path shape found.0 number) slot by.2 found.2)
      | inr there ↦ into_live shape (written ++ more) number slot found.0 (Contains-append_right written more found.0 there) found.2
    ]

regained : (shape : Shape) → InsideTest → PointsAreInside (bounds_of_shape shape) → (written more : List Coord) → AllInside shape written → (number : ℕ) (slot : List ℕ) → is_live shape (written ++ more) number slot ≡ true → is_live shape (closure shape written ++ more) number slot ≡ true
regained shape test inside written more all number slot live =
    let found = from_live shape (written ++ more) number slot live in
    elim (Contains-append_cases written more found.0 found.1) [
      | inl here ↦ into_live shape (closure shape written ++ more) number slot found.0
          (Contains-append_left (closure shape written) more found.0 (closure_extends shape test inside written found.0 here (all found.0 here))) found.2
      | inr there ↦ into_live shape (closure shape written ++ more) number slot found.0 (Contains-append_right (closure shape written) more found.0 there) found.2
    ]

pub live_absorbs : (shape : Shape) → InsideTest → PointsAreInside (bounds_of_shape shape) → LiveAbsorbs shape
live_absorbs shape test inside written more all number is slot =
    same_tests (is_live shape (closure shape written ++ more) number slot) (is_live shape (written ++ more) number slot)
    (absorbed shape test inside written more number is slot)
    (regained shape test inside written more all number slot)
