-- The axes of checked layouts can be checked, and their nodes gone down.
use Rattle.std.specs.Prelude.{◌≡◌, ℕ, ◌≤◌, nat_lt, true, List, [], ◌∷◌, slice_get, Some}
use Rattle.std.specs.List.{list_all}
use Rattle.std.proofs.Common.{arith}
use Rattle.std.proofs.lemmas.Bool.{and_parts}
use Rattle.std.proofs.lemmas.Bool.Decides.{nat_tests}
use Rattle.sg_coord.specs.Bounds.{IsBounds}
use Rattle.sg_layout.specs.declared.shape.NodeShape.{NodeShape}
use Rattle.sg_layout.specs.declared.shape.Shape.{Shape}
use Rattle.sg_layout.specs.Accepted.{IsAccepted}
use Rattle.sg_layout.specs.Axes.{bounds_of_shape, extent_in, extent_over}
use Rattle.sg_layout.specs.Rules.{has_good_extents}
use Rattle.sg_layout.proofs.Uses.{all_good, in_some, over_some}
use Rattle.sg_simplify.specs.steps.Typed.{NodesFit, AreWalked}

some_test : (n : ℕ) → 1 ≤ n → nat_lt 0 n ≡ true
some_test n h = grind (arith, nat_tests)

nodes_fit : (nodes : List NodeShape) → list_all has_good_extents nodes ≡ true → NodesFit nodes
nodes_fit [] good = tt
nodes_fit (node ∷ later) good =
    let parts = and_parts (has_good_extents node) (list_all has_good_extents later) good in
    ((λ axis. (some_test (extent_over later axis) (over_some later axis parts.1), some_test (extent_in node.sizes axis) (in_some node.sizes axis parts.0))), nodes_fit later parts.1)

pub are_walked : (shapes : List Shape) → ((layout : ℕ) (shape : Shape) → slice_get shapes layout ≡ Some shape → IsAccepted shape × IsBounds (bounds_of_shape shape)) → AreWalked shapes
are_walked shapes checked layout shape there =
    let good = checked layout shape there in
    record {
      some = good.1.some_axis;
      a = some_test (extent_over shape.nodes 1) good.1.a_some;
      b = some_test (extent_over shape.nodes 2) good.1.b_some;
      c = some_test (extent_over shape.nodes 3) good.1.c_some;
      nodes = nodes_fit shape.nodes (all_good shape good.0);
    }
