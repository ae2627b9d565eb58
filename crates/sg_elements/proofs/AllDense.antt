-- Where all nodes are dense, the active coordinates are all points.
use Rattle.std.proofs.Common.{◌≡◌, List, length, true, sym, ap, ◌∙◌}
use Rattle.std.specs.List.{range_with_len}
use Rattle.std.proofs.lemmas.List.{length-map}
use Rattle.std.proofs.lemmas.List.FromFn.{length-range_with_len}
use Rattle.sg_coord.specs.declared.coord.Coord.{Coord}
use Rattle.sg_coord.specs.Bounds.{volume}
use Rattle.sg_coord.specs.Coord.{point_at}
use Rattle.sg_layout.specs.declared.shape.Shape.{Shape}
use Rattle.sg_layout.specs.Axes.{bounds_of_shape}
use Rattle.sg_layout.specs.Closure.{closure, points}
use Rattle.sg_layout.specs.ClosureLaws.{DenseIsFull}
use Rattle.sg_layout.specs.Rules.{all_dense}
use Rattle.sg_flat.specs.declared.state.FlatLayout.{FlatLayout}

pub dense_active : (shape : Shape) (flat : FlatLayout) → DenseIsFull shape → all_dense shape.nodes ≡ true → flat.active ≡ closure shape flat.active
    → points (bounds_of_shape shape) ≡ flat.active
dense_active shape flat full dense closed = sym (full dense flat.active).0 ∙ sym closed

pub dense_count : (shape : Shape) (flat : FlatLayout) → DenseIsFull shape → all_dense shape.nodes ≡ true → flat.active ≡ closure shape flat.active
    → volume (bounds_of_shape shape) ≡ length flat.active
dense_count shape flat full dense closed =
    let e = bounds_of_shape shape in
    sym (length-map (range_with_len 0 (volume e)) (point_at e) ∙ length-range_with_len 0 (volume e))
    ∙ ap (λ (coords : List Coord). length coords) (dense_active shape flat full dense closed)
