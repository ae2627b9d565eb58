use Rattle.std.proofs.Common.{subst, arith}
use Rattle.sg_layout.specs.Accepted.{IsAccepted}
use Rattle.sg_exec.proofs.DenseSteps.{steps_within}
use Rattle.sg_exec.proofs.PlacesHeld as held
use Rattle.sg_exec.proofs.lanes.dense_step.size_after.Goals as goal

pub returns : goal.returns
returns c =
    let laws : held.StepLaws c.args.store.now = record {
      well = c.layout-layout.ensures.well_formed;
      accepted = subst IsAccepted c.layout-layout.ensures.layout c.shape-shape.ensures.accepted;
      active = c.cells_are_active.ensures.active c.args.store.now;
      whole = c.paths_tell.ensures.whole c.args.store.now.shape;
      is_slot = c.paths_tell.ensures.is_slot c.args.store.now.shape;
    } in
    steps_within c.args.store.now laws c.args.above c.args.node c.dense_size.result (omega (arith, c.nodes.ensures.few, c.if-above-nodes.false)) c.if-above-node.false c.dense_size.ensures.size
