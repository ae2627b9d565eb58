use Rattle.std.proofs.Common.{◌≡◌, Bool, true, false, refl, ◌∙◌, subst}
use Rattle.std.specs.Int.{from_bool}
use Rattle.std.specs.Prelude.{Option}
use Rattle.sg_words.specs.Words.{flag}
use Rattle.sg_exec.specs.declared.lanes.held.Held.{Held}
use Rattle.sg_exec.specs.Standing.{shapes_of}
use Rattle.sg_exec.specs.steps.Machines.{HoldsPlace, LeadsTo}
use Rattle.sg_exec.proofs.Reading.{active_live, active_dead}
use Rattle.sg_exec.proofs.lanes.held_steps.active_word.Goals as goal

-- a test as a number
number_of : (test : Bool) → from_bool test ≡ flag test
number_of true = refl
number_of false = refl

pub returns-in-Some : goal.returns-in-Some
returns-in-Some c = λ state all there holds layout at loop is.
    let leads : LeadsTo c.args.view.now c.in-Some.held there = subst (λ (held : Option Held). HoldsPlace c.args.view.now held there) c.in-Some.is holds in
    c.from.ensures ∙ number_of c.is_cell_held.result
    ∙ active_live c.args.view.now state loop layout at there c.in-Some.held leads.store c.is_cell_held.result all leads leads.there (c.cells_are_active.ensures.active leads.store)
    (c.places_tell.ensures (shapes_of c.args.view.now) layout at) is (c.is_cell_held.ensures leads.store leads.there)

pub returns-in-None : goal.returns-in-None
returns-in-None c = λ state all there holds layout at loop is.
    active_dead c.args.view.now state loop layout at there all (c.places_tell.ensures (shapes_of c.args.view.now) layout at)
    (subst (λ (held : Option Held). HoldsPlace c.args.view.now held there) c.in-None.is holds) is
