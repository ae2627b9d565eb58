use Rattle.std.proofs.Common.{sym}
use Rattle.sg_exec.proofs.HeldWords.{fits_in}
use Rattle.sg_exec.proofs.PlacesHeld as held
use Rattle.sg_exec.proofs.lanes.spots.below_held.Goals as goal

pub spot_below-requires : goal.spot_below-requires
spot_below-requires c = record { leads = held.spot_of c.args.view.now c.args.held c.in-Some.store.now c.requires.held (sym c.in-Some.ensures) }

pub returns-in-Some-clause-steps : goal.returns-in-Some-clause-steps
returns-in-Some-clause-steps c =
    held.steps_down c.args.view.now c.args.held c.in-Some.store.now c.spot_below.result c.args.node c.args.offset c.held_in.result (sym c.in-Some.ensures) c.requires.held
    c.spot_below.ensures.some c.spot_below.ensures.none c.held_in.ensures

pub returns-in-None-clause-steps : goal.returns-in-None-clause-steps
returns-in-None-clause-steps c = absurd (held.not_held c.args.view.now c.args.held c.requires.held c.in-None.ensures)

pub returns-in-Some-clause-fits : goal.returns-in-Some-clause-fits
returns-in-Some-clause-fits c = fits_in c.args.held.layout c.spot_below.result c.held_in.result c.held_in.ensures c.requires.layout c.spot_below.ensures.node
