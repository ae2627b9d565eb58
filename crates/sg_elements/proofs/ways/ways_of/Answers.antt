use Rattle.std.proofs.Common.{arith, sym, ap, ◌∙◌, subst}
use Rattle.sg_coord.specs.Bounds.{IsBounds}
use Rattle.sg_layout.specs.declared.shape.Shape.{Shape}
use Rattle.sg_layout.specs.Axes.{bounds_of_shape}
use Rattle.sg_elements.specs.steps.Levels.{SharesInside}
use Rattle.sg_elements.proofs.WaysOn.{shares_inside, keys_ok, first_ok}
use Rattle.sg_elements.proofs.Ends.{hash_there}
use Rattle.sg_elements.proofs.ways.ways_of.Goals as goal

pub key_ways-requires-clause-inside : goal.key_ways-requires-clause-inside
key_ways-requires-clause-inside c =
    let store = c.args.store.now in
    let accepted = c.layout-layout.ensures.well_formed.accepted in
    let good = subst (λ (s : Shape). IsBounds (bounds_of_shape s)) c.layout-layout.ensures.layout c.extents-extents.ensures.bounds in
    subst (SharesInside c.args.store.now.shape) c.if-node-eq0.true
    (shares_inside store.shape c.args.node (c.paths_tell.ensures.reached store.shape) (c.paths_tell.ensures.coordinate store.shape) accepted (c.paths_tell.ensures.fill store.shape accepted) good c.requires.there)

pub first_ways-requires-clause-inside : goal.first_ways-requires-clause-inside
first_ways-requires-clause-inside c =
    let store = c.args.store.now in
    let accepted = c.layout-layout.ensures.well_formed.accepted in
    let good = subst (λ (s : Shape). IsBounds (bounds_of_shape s)) c.layout-layout.ensures.layout c.extents-extents.ensures.bounds in
    subst (λ (s : Shape). SharesInside s c.args.node) (sym c.layout-layout.ensures.layout)
    (shares_inside store.shape c.args.node (c.paths_tell.ensures.reached store.shape) (c.paths_tell.ensures.coordinate store.shape) accepted (c.paths_tell.ensures.fill store.shape accepted) good c.requires.there)

pub returns-then-is_hash : goal.returns-then-is_hash
returns-then-is_hash c =
    let same = c.as_slice.ensures ∙ ap (λ (s : Shape). s.nodes) (c.shape.ensures.value ∙ c.layout-layout.ensures.layout) in
    let hash = hash_there c.args.store.now.shape.nodes c.as_slice.result.now _ same (omega (arith, c.requires.there)) (c.is_hash.ensures.0 c.if-is_hash.true) in
    keys_ok c.args.store.now c.args.node c.key_ways.result c.if-node-eq0.true hash c.key_ways.ensures

pub returns : goal.returns
returns c = first_ok c.args.store.now c.layout-layout.result.now c.args.node c.ways_end-count.result c.first_ways.result c.layout-layout.ensures.layout c.ways_end-count.ensures.within c.ways_end-count.ensures.enough c.first_ways.ensures
