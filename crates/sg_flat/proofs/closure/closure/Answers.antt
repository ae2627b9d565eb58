use Rattle.std.proofs.Common.{◌≡◌, ◌<◌, ◌+◌, ◌-◌, ℕ, suc, Bool, true, drop, List, length, get_or, map, sym, ap, ◌∙◌, arith}
use Rattle.std.specs.Prelude.{All}
use Rattle.std.specs.Ordering.{nat_cmp}
use Rattle.std.specs.Cmp.{nat_cmp_total}
use Rattle.std.specs.BTreeSet.{BTreeSet, contains}
use Rattle.std.proofs.lemmas.Bool.{and_parts, ltb-true}
use Rattle.std.proofs.lemmas.Result.{IfOk-weaker}
use Rattle.std.proofs.lemmas.List.Elements.{All-weaker}
use Rattle.std.proofs.lemmas.Map.Views.{All-set_contains}
use Rattle.sg_coord.specs.declared.coord.Coord.{Coord}
use Rattle.sg_coord.specs.Bounds.{Bounds, bounds_of, volume}
use Rattle.sg_coord.specs.Coord.{point_at}
use Rattle.sg_layout.specs.declared.shape.Shape.{Shape}
use Rattle.sg_layout.specs.declared.shape.NodeShape.{NodeShape}
use Rattle.sg_layout.specs.Axes.{bounds_of_shape}
use Rattle.sg_layout.specs.Closure.{last_sparse, points, closure}
use Rattle.sg_flat.specs.steps.Blocks.{bounds_over, nodes_above, is_whole, is_row_reached}
use Rattle.sg_flat.proofs.Overs.{split_at}
use Rattle.sg_flat.proofs.Actives.{closure_of_dense, closure_of_sparse}
use Rattle.sg_flat.proofs.closure.closure.Goals as goal

pub returns-then-sparse-eq0 : goal.returns-then-sparse-eq0
returns-then-sparse-eq0 c =
    let shape = c.args.layout.now in
    let laws = c.numbering.ensures in
    let same : c.as_slice-nodes.result.now ≡ shape.nodes = c.as_slice-nodes.ensures ∙ ap (λ (s : Shape). s.nodes) c.shape.ensures.value in
    let dense : last_sparse shape.nodes ≡ 0 = ap last_sparse (sym same) ∙ sym c.last_sparse-sparse.ensures.value ∙ c.if-sparse-eq0.true in
    let whole : closure shape c.args.coords.now ≡ points (bounds_of_shape shape) = closure_of_dense shape c.args.coords.now laws.inside_test laws.point_inside dense in
    IfOk-weaker c.all_points.result (λ (active : List Coord). active ≡ points (bounds_of c.extents-then-sparse-eq0.result)) (λ (active : List Coord). active ≡ closure shape c.args.coords.now)
    (λ active is. is ∙ ap points c.extents-then-sparse-eq0.ensures.value ∙ sym whole) c.all_points.ensures

-- the rows that are reached are below the volume
below : (bounds block : Bounds) (whole : Bool) (coords : List Coord) (rows : BTreeSet ℕ) → ((row : ℕ) → contains nat_cmp rows row ≡ is_row_reached bounds block whole coords row) → All (λ row. row < volume bounds) rows.keys
below bounds block whole coords rows has =
    All-weaker (λ row. contains nat_cmp rows row ≡ true) (λ row. row < volume bounds)
    (λ row in_rows. ltb-true row (volume bounds) (and_parts _ _ (sym (has row) ∙ in_rows)).0) rows.keys (All-set_contains nat_cmp_total rows)

pub points_at-requires : goal.points_at-requires
points_at-requires c =
    let blocks = c.of_node-blocks.result in
    below (bounds_of blocks.extents) (bounds_of blocks.block) blocks.whole c.args.coords.now c.in_ok-rows.rows (λ row. c.in_ok-rows.ensures row)

pub returns : goal.returns
returns c =
    let shape = c.args.layout.now in
    let blocks = c.of_node-blocks.result in
    let laws = c.numbering.ensures in
    let sparse = c.last_sparse-sparse.result in
    let i = sparse - 1 in
    let node = c.index-nodes-sparse.result in
    let rows = c.in_ok-rows.rows in
    let coords = c.args.coords.now in
    let same : c.as_slice-nodes.result.now ≡ shape.nodes = c.as_slice-nodes.ensures ∙ ap (λ (s : Shape). s.nodes) c.shape.ensures.value in
    let some : sparse ≡ suc i = (let not_zero = c.if-sparse-eq0.false in omega arith) in
    let last : last_sparse shape.nodes ≡ suc i = ap last_sparse (sym same) ∙ sym c.last_sparse-sparse.ensures.value ∙ some in
    let inside : i < length shape.nodes = (let most = c.last_sparse-sparse.ensures.most in omega (arith, ap length same)) in
    let here : node ≡ get_or shape.nodes i node = c.index-nodes-sparse.is ∙ ap (λ (ns : List NodeShape). get_or ns i node) same in
    let block = bounds_over shape.axes (drop (nodes_above node.kind i) shape.nodes) in
    let found = get_or c.as_slice-nodes.result.now i node in
    let has : (row : ℕ) → contains nat_cmp rows row ≡ is_row_reached (bounds_of_shape shape) block (is_whole node.kind) coords row =
    λ row. c.in_ok-rows.ensures row
    ∙ ap (λ (e : Bounds). is_row_reached e (bounds_of blocks.block) blocks.whole coords row) c.of_node-blocks.ensures.extents
    ∙ ap (λ (b : Bounds). is_row_reached (bounds_of_shape shape) b blocks.whole coords row) c.of_node-blocks.ensures.block
    ∙ ap (λ (w : Bool). is_row_reached (bounds_of_shape shape) (bounds_over shape.axes (drop (nodes_above found.kind i) shape.nodes)) w coords row) c.of_node-blocks.ensures.whole
    ∙ ap (λ (n : NodeShape). is_row_reached (bounds_of_shape shape) (bounds_over shape.axes (drop (nodes_above n.kind i) shape.nodes)) (is_whole n.kind) coords row) (sym c.index-nodes-sparse.is) in
    let whole = closure_of_sparse shape i node (drop (i + 1) shape.nodes) coords rows laws.inside_test laws.point_inside laws.point_of_row laws.row_below c.shape.ensures.accepted
    last (split_at shape.nodes i node inside here) c.requires c.points_at.ensures.ordered has in
    IfOk-weaker c.points_at.result (λ (active : List Coord). active ≡ map (point_at (bounds_of blocks.extents)) rows.keys) (λ (active : List Coord). active ≡ closure shape coords)
    (λ active is. is ∙ ap (λ (e : Bounds). map (point_at e) rows.keys) c.of_node-blocks.ensures.extents ∙ sym whole) c.points_at.ensures.points
