use Rattle.std.proofs.Common.{◌<◌, get_or, slice_index, ap, arith, ◌∙◌}
use Rattle.sg_layout.specs.declared.shape.Shape.{Shape}
use Rattle.sg_layout.specs.Axes.{sizes_of}
use Rattle.sg_elements.specs.declared.branches.Branch.{Branch}
use Rattle.sg_elements.specs.steps.Levels.{node_size}
use Rattle.sg_elements.proofs.Growing.{branch_there, not_led}
use Rattle.sg_elements.proofs.Ends.{ends_there}
use Rattle.sg_elements.proofs.ways.list_end.Goals as goal

pub down-requires : goal.down-requires
down-requires g c =
    let d : Branch = record { spot = record { node = 0; part = 0; slot = 0 }; row = 0 } in
    let here = branch_there c.args.store.now c.args.node c.args.level.now c.args.index g.path d c.requires.1.0 c.requires.1.1.0 in
    (here.leads, omega (arith, here.many, here.leads.node, c.requires.0))

pub returns-in-None-clause-ends : goal.returns-in-None-clause-ends
returns-in-None-clause-ends g c =
    let store = c.args.store.now in
    let node = c.args.node in
    let d : Branch = record { spot = record { node = 0; part = 0; slot = 0 }; row = 0 } in
    let branch = get_or c.args.level.now c.args.index d in
    let here = branch_there store node c.args.level.now c.args.index g.path d c.requires.1.0 c.requires.1.1.0 in
    let below : c.loop-end.end < node_size c.args.store.now c.args.node = omega (arith, c.loop-end-test.true, c.size-size.ensures.value, ap (λ (s : Shape). slice_index (sizes_of s.nodes) c.args.node) c.layout.ensures.layout) in
    ends_there store node c.loop-end.end g.path here.many c.requires.1.1.1.0 (not_led store node branch.spot.node c.loop-end.end g.path (here.leads.node ∙ here.many) below c.in-None.ensures.none)
