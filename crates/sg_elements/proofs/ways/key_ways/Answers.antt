use Rattle.std.proofs.Common.{◌<◌, List, ℕ, slice_index, ap, ◌∙◌, sym, subst, arith}
use Rattle.std.specs.List.{All}
use Rattle.sg_layout.specs.declared.shape.Shape.{Shape}
use Rattle.sg_layout.specs.Axes.{sizes_of}
use Rattle.sg_elements.specs.steps.Levels.{node_size}
use Rattle.sg_elements.proofs.WaysOn.{roots_below}
use Rattle.sg_elements.proofs.ways.key_ways.Goals as goal

pub way_over-requires-clause-below : goal.way_over-requires-clause-below
way_over-requires-clause-below c =
    let store = c.args.store.now in
    let items = c.as_slice-key-items.ensures ∙ c.in_ok-keys.ensures in
    let below = subst (λ (list : List ℕ). All (λ offset. offset < node_size c.args.store.now 0) list) (sym items) (roots_below store) c.loop-key.key-index 0 c.loop-key-test.true in
    omega (arith, below, ap (λ (s : Shape). slice_index (sizes_of s.nodes) 0) c.layout-layout.ensures.layout)
