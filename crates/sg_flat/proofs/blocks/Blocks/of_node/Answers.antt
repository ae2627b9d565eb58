use Rattle.std.proofs.Common.{ap, ◌∙◌, sym, arith, ◌≡◌, ◌*◌, ◌/◌, drop, ℕ}
use Rattle.sg_coord.specs.Bounds.{Bounds}
use Rattle.sg_layout.specs.declared.shape.Shape.{Shape}
use Rattle.sg_layout.specs.Axes.{extent_over}
use Rattle.sg_layout.specs.Accepted.{IsAccepted}
use Rattle.sg_layout.proofs.Uses.{all_good, good_below, few_nodes}
use Rattle.sg_flat.proofs.Overs.{over_cut}
use Rattle.sg_flat.proofs.blocks.Blocks.of_node.Goals as goal

cuts : (shape : Shape) (axis k whole part : ℕ) → IsAccepted shape → whole ≡ extent_over shape.nodes axis → part ≡ extent_over (drop k shape.nodes) axis → whole / part * part ≡ whole
cuts shape axis k whole part accepted is_whole is_part =
    ap (λ n. n / part * part) is_whole ∙ ap (λ n. extent_over shape.nodes axis / n * n) is_part
    ∙ over_cut shape.nodes k axis (good_below shape.nodes k (all_good shape accepted)) ∙ sym is_whole

pub overflow_add-above : goal.overflow_add-above
overflow_add-above c = let few = few_nodes c.args.layout.now c.shape-accepted.ensures.accepted in omega arith

pub invariant_of-result : goal.invariant_of-result
invariant_of-result c =
    let shape = c.args.layout.now in
    let accepted = c.shape-accepted.ensures.accepted in
    let all = c.extents.ensures.value in
    let below = c.extents_below.ensures in
    record {
      same_axes = ap (λ (e : Bounds). e.n) all ∙ sym (ap (λ (e : Bounds). e.n) below);
      a_cut = cuts shape 1 c.match-kind.above.0 c.extents.result.a c.extents_below.result.a accepted (ap (λ (e : Bounds). e.a) all) (ap (λ (e : Bounds). e.a) below);
      b_cut = cuts shape 2 c.match-kind.above.0 c.extents.result.b c.extents_below.result.b accepted (ap (λ (e : Bounds). e.b) all) (ap (λ (e : Bounds). e.b) below);
      c_cut = cuts shape 3 c.match-kind.above.0 c.extents.result.c c.extents_below.result.c accepted (ap (λ (e : Bounds). e.c) all) (ap (λ (e : Bounds). e.c) below);
    }
