use Rattle.std.proofs.Common.{◌≡◌, sym, refl, ◌∙◌, subst, arith}
use Rattle.std.specs.Prelude.{[], Option, Some, None, IfSome}
use Rattle.sg_exec.specs.declared.lanes.held.Held.{Held}
use Rattle.sg_exec.specs.steps.Machines.{HoldsPlace, IsHeld}
use Rattle.sg_exec.proofs.HeldWords.{fits_in}
use Rattle.sg_exec.proofs.lanes.spots.root_of.Goals as goal

pub returns-in-Some-clause-held : goal.returns-in-Some-clause-held
returns-in-Some-clause-held c =
    subst (λ (found : Option Held). IfSome found (IsHeld c.args.view.now)) (sym c.held_in.ensures)
    (record { path = []; store = c.in-Some.store.now; there = sym c.in-Some.ensures.value; leads = c.root.ensures })

pub returns-in-Some-clause-holds : goal.returns-in-Some-clause-holds
returns-in-Some-clause-holds c =
    subst (λ (found : Option Held). HoldsPlace c.args.view.now found (Some (record { layout = c.args.layout; path = [] }))) (sym c.held_in.ensures)
    (record { path = []; store = c.in-Some.store.now; is_place = refl; there = sym c.in-Some.ensures.value; leads = c.root.ensures })

pub returns-in-None-clause-holds : goal.returns-in-None-clause-holds
returns-in-None-clause-holds c = λ store there at more along. absurd (let h : None ≡ Some store = c.in-None.ensures.value ∙ there in cc)

pub returns-in-Some-clause-fits : goal.returns-in-Some-clause-fits
returns-in-Some-clause-fits c = λ low. fits_in c.args.layout (Some c.root.result) c.held_in.result c.held_in.ensures low (omega (arith, c.root.ensures.node))
