use Rattle.std.proofs.Common.{◌≡◌, ◌+◌, true, length, rules, ap, subst, arith}
use Rattle.std.specs.Prelude.{◌⊎◌}
use Rattle.sg_layout.specs.declared.shape.Shape.{Shape}
use Rattle.sg_layout.specs.Accepted.{IsAccepted}
use Rattle.sg_exec.specs.steps.Stepping.{can_step}
use Rattle.sg_exec.proofs.HeldWords.{deeper}
use Rattle.sg_exec.proofs.PlacesHeld as held
use Rattle.sg_exec.proofs.lanes.spots.spot_below.Goals as goal

pub returns-clause-some : goal.returns-clause-some
returns-clause-some c =
    let on : c.goes_on.result ≡ true = search rules in
    let goes : (c.args.spot.node + 1 ≡ c.args.node) ⊎ (can_step c.args.store.now.shape.nodes c.args.node c.args.offset ≡ true) =
    subst (λ (s : Shape). (c.args.spot.node + 1 ≡ c.args.node) ⊎ (can_step s.nodes c.args.node c.args.offset ≡ true)) c.layout-layout.ensures.layout (c.goes_on.ensures.on on) in
    held.under_either c.args.store.now c.args.spot c.args.node c.args.offset c.under.result goes
    (omega (arith, c.nodes.ensures.value, c.if-spot-nodes.false, ap (λ (s : Shape). length s.nodes) c.layout-layout.ensures.layout)) c.under.ensures.below

pub returns-clause-none : goal.returns-clause-none
returns-clause-none c =
    let laws : held.StepLaws c.args.store.now = record {
      well = c.layout-layout.ensures.well_formed;
      accepted = subst IsAccepted c.layout-layout.ensures.layout c.shape-shape.ensures.accepted;
      active = c.cells_are_active.ensures.active c.args.store.now;
      whole = c.paths_tell.ensures.whole c.args.store.now.shape;
      is_slot = c.paths_tell.ensures.is_slot c.args.store.now.shape;
    } in
    held.under_none c.args.store.now laws c.args.spot c.args.node c.args.offset c.under.result c.under.ensures.none

pub returns-clause-node : goal.returns-clause-node
returns-clause-node c =
    deeper c.args.store.now c.args.spot c.args.offset c.under.result (omega (arith, c.nodes.ensures.few, c.if-spot-nodes.false)) c.requires.leads c.under.ensures.below
