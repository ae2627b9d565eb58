use Rattle.std.proofs.Common.{◌≡◌, sym, subst}
use Rattle.std.specs.Prelude.{Option, Some, None}
use Rattle.sg_exec.specs.declared.lanes.held.Held.{Held}
use Rattle.sg_exec.specs.Standing.{shapes_of}
use Rattle.sg_exec.specs.steps.Machines.{HoldsPlace, LeadsTo}
use Rattle.sg_exec.proofs.Reading.{value_live, value_dead}
use Rattle.sg_exec.proofs.lanes.held_steps.value_of.Goals as goal

pub returns-in-Some : goal.returns-in-Some
returns-in-Some c = λ state all there holds layout at loop is.
    let leads : LeadsTo c.args.view.now c.in-Some.held there = subst (λ (held : Option Held). HoldsPlace c.args.view.now held there) c.in-Some.is holds in
    value_live c.args.view.now state loop layout c.args.field at there c.in-Some.held leads.store c.value_held.result all leads leads.there is (c.value_held.ensures leads.store leads.there)

pub returns-in-None : goal.returns-in-None
returns-in-None c = λ state all there holds layout at loop is.
    value_dead c.args.view.now state loop layout c.args.field at there all c.numbering.ensures.inside_test c.numbering.ensures.point_of_row
    (c.places_tell.ensures (shapes_of c.args.view.now) layout at)
    (subst (λ (held : Option Held). HoldsPlace c.args.view.now held there) c.in-None.is holds) is
