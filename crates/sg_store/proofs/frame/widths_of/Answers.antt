use Rattle.std.proofs.Common.{◌≡◌, ◌≤◌, ◌*◌, ◌^◌, ◌∙◌, List, [], ◌∷◌, ◌++◌, length, ap, sym, refl, arith}
use Rattle.sg_layout.specs.declared.shape.NodeShape.{NodeShape}
use Rattle.sg_layout.specs.declared.shape.Shape.{Shape}
use Rattle.sg_store.specs.Spots.{width_past}
use Rattle.sg_store.proofs.Stepping.{read_as}
use Rattle.sg_store.proofs.SpotPlaces as widths
use Rattle.sg_store.proofs.Widths as lemmas
use Rattle.sg_store.proofs.frame.widths_of.Goals as goal

pub overflow_mul-before : goal.overflow_mul-before
overflow_mul-before c =
    let nodes : List NodeShape = c.args.layout.now.nodes in
    let same : c.as_slice-nodes.result.now ≡ nodes = c.as_slice-nodes.ensures ∙ ap (λ (s : Shape). s.nodes) c.shape.ensures.value in
    let step : widths.IsWidth nodes c.loop-index.index c.loop-index.before c.size-size.result c.index-nodes-index.result.kind = record {
      within = omega (arith, c.loop-index-test.true, ap length same);
      is = c.loop-index.invariant.is;
      narrow = c.loop-index.invariant.narrow;
      sized = c.size-size.ensures.value;
      kinded = λ n at. ap (λ (m : NodeShape). m.kind) (read_as c.as_slice-nodes.result.now nodes c.loop-index.index c.index-nodes-index.result n same c.index-nodes-index.is at);
    } in
    let fits : c.loop-index.before * c.size-size.result ≤ 2 ^ 30 =
    widths.width_fits nodes c.loop-index.index c.loop-index.before c.size-size.result c.index-nodes-index.result.kind step in
    omega arith

pub loop-index-preserved : goal.loop-index-preserved
loop-index-preserved c =
    let nodes : List NodeShape = c.args.layout.now.nodes in
    let same : c.as_slice-nodes.result.now ≡ nodes = c.as_slice-nodes.ensures ∙ ap (λ (s : Shape). s.nodes) c.shape.ensures.value in
    let step : widths.IsWidth nodes c.loop-index.index c.loop-index.before c.size-size.result c.index-nodes-index.result.kind = record {
      within = omega (arith, c.loop-index-test.true, ap length same);
      is = c.loop-index.invariant.is;
      narrow = c.loop-index.invariant.narrow;
      sized = c.size-size.ensures.value;
      kinded = λ n at. ap (λ (m : NodeShape). m.kind) (read_as c.as_slice-nodes.result.now nodes c.loop-index.index c.index-nodes-index.result n same c.index-nodes-index.is at);
    } in
    lemmas.first_more nodes c.loop-index.index c.loop-index.before c.size-size.result c.width_past-after.result c.index-nodes-index.result.kind
    c.loop-index.widths c.push.new.self _ c.loop-index.invariant step c.size-size.ensures.some
    (c.width_past-after.ensures ∙ ap (λ (m : NodeShape). width_past m.kind (c.loop-index.before * c.size-size.result)) (sym c.index-nodes-index.is)) refl
    (c.in_ok-push.ensures.ok ∙ ap (λ (m : NodeShape). c.loop-index.widths ++ record { kind = m.kind; size = c.size-size.result; before = c.loop-index.before; after = c.width_past-after.result } ∷ []) (sym c.index-nodes-index.is))
