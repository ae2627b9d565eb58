use Rattle.std.proofs.Common.{ap, ◌∙◌, arith, ◌≡◌, ◌+◌, ◌<◌, ◌≤◌, List, ◌∷◌, ℕ, length, get_or, take, drop, true}
use Rattle.std.specs.List.{list_all}
use Rattle.std.proofs.lemmas.List.{get_or-take, length-take-le}
use Rattle.sg_coord.specs.Bounds.{Bounds, bounds_of}
use Rattle.sg_layout.specs.declared.shape.NodeShape.{NodeShape}
use Rattle.sg_layout.specs.declared.shape.Shape.{Shape}
use Rattle.sg_layout.specs.Axes.{extent_in, extent_over}
use Rattle.sg_layout.specs.Accepted.{IsAccepted}
use Rattle.sg_layout.specs.Rules.{has_good_extents}
use Rattle.sg_flat.proofs.Accepted.{good_at}
use Rattle.sg_layout.proofs.Uses.{all_good, good_below}
use Rattle.sg_flat.proofs.Overs.{split_at, extent_fits, bounds_below}
use Rattle.sg_flat.proofs.cutting.extents_below.Goals as goal

-- the node of a turn, and that those below it are well made too
record Turns (shape : Shape) (i : ℕ) (node : NodeShape) : Type 0 where
  split : drop i shape.nodes ≡ node ∷ drop (i + 1) shape.nodes
  good : has_good_extents node ≡ true
  below : list_all has_good_extents (drop (i + 1) shape.nodes) ≡ true

turns : (shape : Shape) (nodes : List NodeShape) (above i : ℕ) (node : NodeShape) → IsAccepted shape → nodes ≡ shape.nodes → above ≤ length shape.nodes → i < length (take above nodes) → node ≡ get_or (take above nodes) i node → Turns shape i node
turns shape nodes above i node accepted same enough turn is =
    let short : length (take above nodes) ≡ above = length-take-le above nodes (omega (arith, ap length same)) in
    let before : i < above = omega arith in
    let inside : i < length shape.nodes = omega arith in
    let here : node ≡ get_or shape.nodes i node = is ∙ get_or-take above nodes i node before ∙ ap (λ (ns : List NodeShape). get_or ns i node) same in
    let split = split_at shape.nodes i node inside here in
    record {
      split = split;
      good = (good_at shape i node (drop (i + 1) shape.nodes) accepted split).extents;
      below = good_below shape.nodes (i + 1) (all_good shape accepted);
    }

-- a node's extent is at most that over it and the nodes below it
fits : (axis whole i : ℕ) (nodes : List NodeShape) (node : NodeShape) → list_all has_good_extents (drop (i + 1) nodes) ≡ true → drop i nodes ≡ node ∷ drop (i + 1) nodes → whole ≡ extent_over (drop i nodes) axis → extent_in node.sizes axis ≤ whole
fits axis whole i nodes node below split is =
    let most = extent_fits node (drop (i + 1) nodes) axis below in
    let same : whole ≡ extent_over (node ∷ drop (i + 1) nodes) axis = is ∙ ap (λ (ns : List NodeShape). extent_over ns axis) split in
    omega arith

pub extents_without-extents-requires-clause-good : goal.extents_without-extents-requires-clause-good
extents_without-extents-requires-clause-good c =
    (turns c.args.layout.now c.as_slice.result.now c.args.above c.loop-node.node-index c.node-item.result c.shape.ensures.accepted
    (c.as_slice.ensures ∙ ap (λ (s : Shape). s.nodes) c.shape.ensures.value) c.requires c.loop-node-test.true c.node-item.is).good

pub extents_without-extents-requires-clause-a_fits : goal.extents_without-extents-requires-clause-a_fits
extents_without-extents-requires-clause-a_fits c =
    let turn = turns c.args.layout.now c.as_slice.result.now c.args.above c.loop-node.node-index c.node-item.result c.shape.ensures.accepted
    (c.as_slice.ensures ∙ ap (λ (s : Shape). s.nodes) c.shape.ensures.value) c.requires c.loop-node-test.true c.node-item.is in
    fits 1 c.loop-node.extents.a c.loop-node.node-index c.args.layout.now.nodes c.node-item.result turn.below turn.split (ap (λ (e : Bounds). e.a) c.loop-node.invariant)

pub extents_without-extents-requires-clause-b_fits : goal.extents_without-extents-requires-clause-b_fits
extents_without-extents-requires-clause-b_fits c =
    let turn = turns c.args.layout.now c.as_slice.result.now c.args.above c.loop-node.node-index c.node-item.result c.shape.ensures.accepted
    (c.as_slice.ensures ∙ ap (λ (s : Shape). s.nodes) c.shape.ensures.value) c.requires c.loop-node-test.true c.node-item.is in
    fits 2 c.loop-node.extents.b c.loop-node.node-index c.args.layout.now.nodes c.node-item.result turn.below turn.split (ap (λ (e : Bounds). e.b) c.loop-node.invariant)

pub extents_without-extents-requires-clause-c_fits : goal.extents_without-extents-requires-clause-c_fits
extents_without-extents-requires-clause-c_fits c =
    let turn = turns c.args.layout.now c.as_slice.result.now c.args.above c.loop-node.node-index c.node-item.result c.shape.ensures.accepted
    (c.as_slice.ensures ∙ ap (λ (s : Shape). s.nodes) c.shape.ensures.value) c.requires c.loop-node-test.true c.node-item.is in
    fits 3 c.loop-node.extents.c c.loop-node.node-index c.args.layout.now.nodes c.node-item.result turn.below turn.split (ap (λ (e : Bounds). e.c) c.loop-node.invariant)

pub loop-node-preserved : goal.loop-node-preserved
loop-node-preserved c =
    let turn = turns c.args.layout.now c.as_slice.result.now c.args.above c.loop-node.node-index c.node-item.result c.shape.ensures.accepted
    (c.as_slice.ensures ∙ ap (λ (s : Shape). s.nodes) c.shape.ensures.value) c.requires c.loop-node-test.true c.node-item.is in
    bounds_below c.args.layout.now.axes c.node-item.result (drop (c.loop-node.node-index + 1) c.args.layout.now.nodes) (drop c.loop-node.node-index c.args.layout.now.nodes)
    (bounds_of c.loop-node.extents) (bounds_of c.extents_without-extents.result) turn.good turn.split c.loop-node.invariant
    c.extents_without-extents.ensures.n c.extents_without-extents.ensures.a c.extents_without-extents.ensures.b c.extents_without-extents.ensures.c
