-- Shapes of dense nodes alone: every closure is all points, and no node is too full.
use Rattle.std.proofs.Common.{◌≡◌, ℕ, suc, true, false, cond, ◌||◌, List, [], ◌∷◌, Some, None, ltb, eqb, refl, ap, ◌∙◌, arith}
use Rattle.std.specs.List.{Contains}
use Rattle.std.proofs.lemmas.Bool.{and_parts, and_from, or_left, le-ltb, eq-eqb}
use Rattle.std.proofs.lemmas.List.Elements.{All-weaker, All-contains_itself}
use Rattle.sg_coord.specs.declared.coord.Coord.{Coord}
use Rattle.sg_coord.specs.Coord.{is_inside}
use Rattle.sg_coord.specs.Laws.{InsideTest}
use Rattle.sg_layout.specs.declared.shape.Kind.{Kind}
use Rattle.sg_layout.specs.declared.shape.Kind.TheVariants.{Dense, Bitmasked, Pointer, Hash, Dynamic}
use Rattle.sg_layout.specs.declared.shape.NodeShape.{NodeShape}
use Rattle.sg_layout.specs.declared.shape.Shape.{Shape}
use Rattle.sg_layout.specs.Axes.{bounds_of_shape, count_of}
use Rattle.sg_layout.specs.Path.{path}
use Rattle.sg_layout.specs.Live.{is_live}
use Rattle.sg_layout.specs.Closure.{is_dense, last_sparse, is_in_closure, points}
use Rattle.sg_layout.specs.Need.{need_by, need_of, first_full_from}
use Rattle.sg_layout.specs.Rules.{all_dense}
use Rattle.sg_layout.specs.ClosureLaws.{PointsAreInside, DenseIsFull}
use Rattle.sg_words.proofs.Uses.{filter_all}

pub no_sparse : (nodes : List NodeShape) → all_dense nodes ≡ true → last_sparse nodes ≡ 0
no_sparse [] dense = refl
no_sparse (node ∷ later) dense =
    let parts = and_parts (is_dense node.kind) (all_dense later) dense in
    ap (λ last. cond (ltb 0 last) (suc last) (cond (is_dense node.kind) 0 1)) (no_sparse later parts.1) ∙ ap (λ here. cond here 0 1) parts.0

no_need : (kind : Kind) (shape : Shape) (written : List Coord) (number chunk : ℕ) → is_dense kind ≡ true → need_by kind shape written number chunk ≡ 0
no_need Dense shape written number chunk dense = refl
no_need Bitmasked shape written number chunk dense = cc
no_need Pointer shape written number chunk dense = cc
no_need Hash shape written number chunk dense = cc
no_need Dynamic shape written number chunk dense = cc

none_full : (shape : Shape) (written : List Coord) (number : ℕ) (nodes : List NodeShape) → all_dense nodes ≡ true → first_full_from shape written number nodes ≡ None
none_full shape written number [] dense = refl
none_full shape written number (node ∷ later) dense =
    let parts = and_parts (is_dense node.kind) (all_dense later) dense in
    let need : need_of shape written number node ≡ 0 = no_need node.kind shape written number (count_of node.chunk) parts.0 in
    let fits : ltb (count_of node.cap) (need_of shape written number node) ≡ false = le-ltb (count_of node.cap) (need_of shape written number node) (omega (arith, need)) in
    ap (λ full. cond full (Some (record { node = number; cap = count_of node.cap })) (first_full_from shape written (suc number) later)) fits
    ∙ none_full shape written (suc number) later parts.1

all_closed : (shape : Shape) (written : List Coord) (at : Coord) → all_dense shape.nodes ≡ true → is_inside (bounds_of_shape shape) at ≡ true → is_in_closure shape written at ≡ true
all_closed shape written at dense inside =
    and_from (is_inside (bounds_of_shape shape) at) (eqb (last_sparse shape.nodes) 0 || is_live shape written (last_sparse shape.nodes) (path shape at (last_sparse shape.nodes))) inside
    (or_left (eqb (last_sparse shape.nodes) 0) (is_live shape written (last_sparse shape.nodes) (path shape at (last_sparse shape.nodes))) (eq-eqb (last_sparse shape.nodes) 0 (no_sparse shape.nodes dense)))

pub dense_is_full : (shape : Shape) → InsideTest → PointsAreInside (bounds_of_shape shape) → DenseIsFull shape
dense_is_full shape test inside dense written = (
  filter_all (is_in_closure shape written) (points (bounds_of_shape shape))
      (All-weaker (Contains (points (bounds_of_shape shape))) (λ (at : Coord). is_in_closure shape written at ≡ true)
      (λ at point. all_closed shape written at dense ((test (bounds_of_shape shape) at).1 ((inside at).0 point)))
      (points (bounds_of_shape shape)) (All-contains_itself (points (bounds_of_shape shape)))),
  none_full shape written 1 shape.nodes dense,
)
