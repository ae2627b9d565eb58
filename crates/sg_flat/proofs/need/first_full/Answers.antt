use Rattle.std.proofs.Common.{◌<◌, ◌≡◌, ◌+◌, ap, ◌∙◌, sym, arith, drop, get_or, length, List}
use Rattle.std.proofs.lemmas.Int.{to_z-of_z}
use Rattle.sg_coord.specs.Coord.{count_of}
use Rattle.sg_layout.specs.declared.shape.NodeShape.{NodeShape}
use Rattle.sg_layout.specs.declared.shape.Shape.{Shape}
use Rattle.sg_flat.proofs.Accepted.{IsGoodCap, good_at, good_cap}
use Rattle.sg_flat.proofs.Overs.{split_at}
use Rattle.sg_flat.proofs.Needs.{full_has_cap}
use Rattle.sg_flat.proofs.need.first_full.Goals as goal

pub count-requires : goal.count-requires
count-requires c =
    let shape = c.args.layout.now in
    let node = c.index-nodes-index.result in
    let i = c.loop-index.index in
    let same : c.as_slice-nodes.result.now ≡ shape.nodes = c.as_slice-nodes.ensures ∙ ap (λ (s : Shape). s.nodes) c.shape.ensures.value in
    let below : i < length shape.nodes = omega (arith, ap length same) in
    let split = split_at shape.nodes i node below (c.index-nodes-index.is ∙ ap (λ (ns : List NodeShape). get_or ns i node) same) in
    let capped = full_has_cap node.kind (count_of node.cap) shape c.args.coords.now (i + 1) (count_of node.chunk) (sym c.in_ok-is_full.ensures ∙ c.if-branch.true) in
    let cap : IsGoodCap node.cap = good_cap node (drop (i + 1) shape.nodes) (good_at shape i node (drop (i + 1) shape.nodes) c.shape.ensures.accepted split) capped in
    let low = cap.low in
    let high = cap.high in
    let whole = cap.whole in
    grind (arith, to_z-of_z)
