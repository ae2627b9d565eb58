-- The emitted place, all together.
use Rattle.std.proofs.Common.{◌≡◌, ℕ, zero, suc, ◌^◌, ◌<◌, ◌≤◌, List, [], length, map, drop, All, ap, ◌∙◌, subst, arith, Option, Some}
use Rattle.std.specs.Prelude.{slice_get}
use Rattle.std.proofs.lemmas.List.{take_all, length-map}
use Rattle.std.proofs.lemmas.List.Elements.{All-map}
use Rattle.sg_coord.specs.Bounds.{Bounds, IsBounds}
use Rattle.sg_coord.specs.declared.coord.Coord.{Coord}
use Rattle.sg_coord.specs.Laws.{InsideTest}
use Rattle.sg_layout.specs.declared.shape.NodeShape.{NodeShape}
use Rattle.sg_layout.specs.declared.shape.Shape.{Shape}
use Rattle.sg_layout.specs.Accepted.{IsAccepted}
use Rattle.sg_layout.specs.Axes.{extent_over, bounds_of_shape}
use Rattle.sg_layout.specs.Path.{path, offsets}
use Rattle.sg_layout.specs.Slots.{IsSlot}
use Rattle.sg_layout.specs.PathLaws.{PathIsSlot, WholePathIsOffsets}
use Rattle.sg_layout.proofs.Uses.{all_good}
use Rattle.sg_ir.specs.declared.code.Inst.{Inst}
use Rattle.sg_ir.specs.declared.names.Names.{Names}
use Rattle.sg_ir.specs.Runs.{Place, Moved, named_by, runs}
use Rattle.sg_ir.specs.Places.{place_at, extents_in}
use Rattle.sg_ir.specs.Emits.{AtPlace, AtRoot, Extends, Reaches, LeadsToPlace}
use Rattle.sg_ir.specs.steps.Walks.{AreWalkable, checks, led}
use Rattle.sg_ir.proofs.Extending.{extends-trans, quiet-trans, words-kept}
use Rattle.sg_ir.proofs.Leading.{walk-leads}

-- what the walk down asks of nodes
pub walkable_from : (shape : Shape) → IsAccepted shape → IsBounds (bounds_of_shape shape) → AreWalkable shape.nodes
walkable_from shape accepted good = record { good = all_good shape accepted; small = λ axis first last. small axis first last }
  where
    small : (axis : ℕ) → 1 ≤ axis → axis ≤ 3 → extent_over shape.nodes axis ≤ 2 ^ 15
    small zero first last = absurd (omega arith)
    small (suc zero) first last = good.a_most
    small (suc (suc zero)) first last = good.b_most
    small (suc (suc (suc zero))) first last = good.c_most
    small (suc (suc (suc (suc k)))) first last = absurd (omega arith)

pub whole_slot : (shape : Shape) → IsAccepted shape → PathIsSlot shape → WholePathIsOffsets shape → (at : Coord) → IsSlot shape.nodes (offsets shape.nodes at)
whole_slot shape accepted is_slot whole at =
    let nodes : List NodeShape = shape.nodes in
    subst (λ p. IsSlot nodes p) (whole at) (subst (λ ns. IsSlot ns (path shape at (length nodes))) (take_all (length nodes) nodes (omega arith)) (is_slot accepted at (length nodes)))

-- root, checks and steps down lead to the place of the index registers' coordinate
pub place-leads : (shapes : List Shape) (layout : ℕ) (shape : Shape) (bounds : Bounds) (nodes : List NodeShape) (index : List ℕ) (start inside to : ℕ) (old mid1 mid2 new : Names) (a b c d : List Inst) →
    bounds ≡ bounds_of_shape shape → nodes ≡ shape.nodes → IsAccepted shape → IsBounds (bounds_of_shape shape) → InsideTest → PathIsSlot shape → WholePathIsOffsets shape →
    length index ≡ shape.axes → All (λ r. r < length old.regs) index → slice_get shapes layout ≡ Some shape →
    Reaches shapes (λ seen now. Some (record { layout = layout; path = [] })) (AtRoot layout) start old mid1 a b →
    Reaches shapes (λ seen now. checks (drop 0 (extents_in bounds)) (map now.regs index) (now.places start)) (AtPlace start) inside mid1 mid2 b c →
    Reaches shapes (λ seen now. led shapes 1 nodes (map now.regs index) (now.places inside)) (AtPlace inside) to mid2 new c d →
    LeadsToPlace shapes index (λ seen now. place_at shapes layout (named_by index now)) layout to old new a d
place-leads shapes layout shape bounds nodes index start inside to old mid1 mid2 new a b c d same_bounds same_nodes accepted good test is_slot whole long named there first second third =
    let two : Extends shapes old mid2 a c = extends-trans shapes old mid1 mid2 a b c first.extends second.extends in
    record {
      extends = extends-trans shapes old mid2 new a c d two third.extends;
      quiet = quiet-trans shapes a c d (quiet-trans shapes a b c first.quiet second.quiet) third.quiet;
      named = third.named;
      value = λ seen same from small.
          let A : Moved = runs seen a from in
          let B : Moved = runs seen b from in
          let C : Moved = runs seen c from in
          let words : List ℕ = map A.regs index in
          let at_b : map B.regs index ≡ words = words-kept (length old.regs) old.places A B index named (first.extends.keeps seen same from) in
          let at_c : map C.regs index ≡ words = words-kept (length old.regs) old.places A C index named (two.keeps seen same from) in
          let extents : List ℕ = extents_in (bounds_of_shape shape) in
          let root : Option Place = Some (record { layout = layout; path = [] }) in
          let checked : C.places inside ≡ checks extents words root =
          second.value seen same from
          ∙ ap (λ ws. checks (extents_in bounds) ws (B.places start)) at_b
          ∙ ap (λ p. checks (extents_in bounds) words p) (first.value seen same from)
          ∙ ap (λ bs. checks (extents_in bs) words root) same_bounds in
          third.value seen same from
          ∙ ap (λ ns. led shapes 1 ns (map C.regs index) (C.places inside)) same_nodes
          ∙ ap (λ ws. led shapes 1 shape.nodes ws (C.places inside)) at_c
          ∙ ap (λ p. led shapes 1 shape.nodes words p) checked
          ∙ walk-leads shapes layout shape words there accepted good test (whole_slot shape accepted is_slot whole) (length-map index A.regs ∙ long) (All-map (λ w. w < 2 ^ 32) A.regs index small);
      rooted = λ seen same from. third.rooted seen same from ∙ (second.rooted seen same from ∙ first.rooted seen same from);
      comes = λ ways. third.comes ways ∙ (second.comes ways ∙ first.comes ways);
    }
