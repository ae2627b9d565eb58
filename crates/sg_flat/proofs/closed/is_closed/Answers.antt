use Rattle.std.proofs.Common.{◌≡◌, ◌<◌, ◌+◌, ◌-◌, ℕ, suc, true, drop, List, length, get_or, eqb, refl, sym, ap, ◌∙◌, subst, arith}
use Rattle.std.specs.Prelude.{◌↔◌}
use Rattle.std.proofs.lemmas.Bool.{eqb-true, eq-eqb}
use Rattle.sg_coord.specs.Bounds.{Bounds, volume}
use Rattle.sg_layout.specs.declared.shape.Shape.{Shape}
use Rattle.sg_layout.specs.declared.shape.NodeShape.{NodeShape}
use Rattle.sg_layout.specs.Axes.{bounds_of_shape}
use Rattle.sg_layout.specs.Closure.{last_sparse}
use Rattle.sg_flat.specs.steps.Blocks.{bounds_over, nodes_above, is_whole, all_of}
use Rattle.sg_flat.proofs.Overs.{split_at}
use Rattle.sg_flat.proofs.Neighbours.{AreBelow, AreBlocksOf, point_laws, closed_where_dense, closed_where_sparse}
use Rattle.sg_flat.proofs.closed.is_closed.Goals as goal

tells : (x y n v : ℕ) (P : Type 0) → x ≡ n → y ≡ v → (n ≡ v) ↔ P → (eqb x y ≡ true) ↔ P
tells x y n v P is_x is_y both = (λ t. both.0 (sym is_x ∙ eqb-true x y t ∙ is_y), λ p. eq-eqb x y (is_x ∙ both.1 p ∙ sym is_y))

pub returns-then-sparse-eq0 : goal.returns-then-sparse-eq0
returns-then-sparse-eq0 c =
    let shape = c.args.layout.now in
    let laws = c.numbering.ensures in
    let same : c.as_slice-nodes.result.now ≡ shape.nodes = c.as_slice-nodes.ensures ∙ ap (λ (s : Shape). s.nodes) c.shape.ensures.value in
    let dense : last_sparse shape.nodes ≡ 0 = ap last_sparse (sym same) ∙ sym c.last_sparse-sparse.ensures.value ∙ c.if-sparse-eq0.true in
    tells (length c.args.rows.now) c.volume.result (length c.args.rows.now) (volume (bounds_of_shape shape)) _ refl
    (c.volume.ensures.value ∙ ap volume c.extents-then-sparse-eq0.ensures.value)
    (closed_where_dense (point_laws laws.inside_test laws.point_inside laws.point_of_row laws.row_of_point laws.row_below) shape c.args.rows.now dense c.requires.rising c.requires.below)

pub returns : goal.returns
returns c =
    let shape = c.args.layout.now in
    let blocks = c.of_node-blocks.result in
    let laws = c.numbering.ensures in
    let sparse = c.last_sparse-sparse.result in
    let i = sparse - 1 in
    let node = c.index-nodes-sparse.result in
    let rows = c.args.rows.now in
    let same : c.as_slice-nodes.result.now ≡ shape.nodes = c.as_slice-nodes.ensures ∙ ap (λ (s : Shape). s.nodes) c.shape.ensures.value in
    let some : sparse ≡ suc i = (let not_zero = c.if-sparse-eq0.false in omega arith) in
    let last : last_sparse shape.nodes ≡ suc i = ap last_sparse (sym same) ∙ sym c.last_sparse-sparse.ensures.value ∙ some in
    let inside : i < length shape.nodes = (let most = c.last_sparse-sparse.ensures.most in omega (arith, ap length same)) in
    let here : node ≡ get_or shape.nodes i node = c.index-nodes-sparse.is ∙ ap (λ (ns : List NodeShape). get_or ns i node) same in
    let found = get_or c.as_slice-nodes.result.now i node in
    let are : AreBlocksOf shape blocks = record {
      accepted = c.shape.ensures.accepted;
      index = i;
      node = node;
      later = drop (i + 1) shape.nodes;
      last = last;
      split = split_at shape.nodes i node inside here;
      extents = c.of_node-blocks.ensures.extents;
      block = c.of_node-blocks.ensures.block ∙ ap (λ (n : NodeShape). bounds_over shape.axes (drop (nodes_above n.kind i) shape.nodes)) (sym c.index-nodes-sparse.is);
      whole = c.of_node-blocks.ensures.whole ∙ ap (λ (n : NodeShape). is_whole n.kind) (sym c.index-nodes-sparse.is);
    } in
    let below : AreBelow (volume (all_of blocks)) rows = subst (λ (b : Bounds). AreBelow (volume b) rows) (sym c.of_node-blocks.ensures.extents) c.requires.below in
    let both = closed_where_sparse (point_laws laws.inside_test laws.point_inside laws.point_of_row laws.row_of_point laws.row_below) shape blocks are rows c.requires.rising below in
    (λ is. both.0 (c.have_neighbours.ensures.0 is), λ closed. c.have_neighbours.ensures.1 (both.1 closed))
