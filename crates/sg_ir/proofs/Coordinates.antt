-- The place of a coordinate has that coordinate.
use Rattle.std.proofs.Common.{◌≡◌, ℕ, Bool, true, false, cond, Option, Some, None, option_map, List, refl, sym, ap, ◌∙◌}
use Rattle.std.specs.Prelude.{slice_get}
use Rattle.sg_coord.specs.declared.coord.Coord.{Coord}
use Rattle.sg_coord.specs.Coord.{is_inside}
use Rattle.sg_coord.specs.Laws.{InsideTest}
use Rattle.sg_layout.specs.declared.shape.Shape.{Shape}
use Rattle.sg_layout.specs.Axes.{bounds_of_shape}
use Rattle.sg_layout.specs.Path.{offsets}
use Rattle.sg_layout.specs.Slots.{coordinate_of}
use Rattle.sg_layout.specs.PathLaws.{CoordinateOfPath}
use Rattle.sg_flat.specs.Kernel.{is_inside_of}
use Rattle.sg_ir.specs.Runs.{Place, at_of}
use Rattle.sg_ir.specs.Places.{place_of_coord}
use Rattle.sg_ir.specs.Laws.{PlaceHasCoordinate}

tested : (F : Option Place → Option Coord) (b : Bool) (x : Place) (y : Coord) → (b ≡ true → F (Some x) ≡ Some y) → F None ≡ None → F (cond b (Some x) None) ≡ cond b (Some y) None
tested F true x y same none = same refl
tested F false x y same none = none

pub place_has_coordinate : InsideTest → ((shape : Shape) → CoordinateOfPath shape) → (shapes : List Shape) (layout : ℕ) (at : Coord) → PlaceHasCoordinate shapes layout at
place_has_coordinate test back shapes layout at = by_shape (slice_get shapes layout) refl
  where
    by_shape : (found : Option Shape) → slice_get shapes layout ≡ found → PlaceHasCoordinate shapes layout at
    by_shape None there =
        ap (λ s. at_of shapes (place_of_coord layout at s)) there ∙ sym (ap (λ s. cond (is_inside_of s at) (Some at) None) there)
    by_shape (Some shape) there =
        ap (λ s. at_of shapes (place_of_coord layout at s)) there
        ∙ tested (at_of shapes) (is_inside (bounds_of_shape shape) at) (record { layout = layout; path = offsets shape.nodes at }) at
        (λ inside. ap (option_map (λ (s : Shape). coordinate_of s (offsets shape.nodes at))) there ∙ ap Some (back shape at ((test (bounds_of_shape shape) at).0 inside)))
        refl
        ∙ sym (ap (λ s. cond (is_inside_of s at) (Some at) None) there)
