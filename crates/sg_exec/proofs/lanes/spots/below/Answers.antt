use Rattle.std.proofs.Common.{sym, subst}
use Rattle.std.specs.Prelude.{Option, None}
use Rattle.sg_exec.specs.declared.lanes.held.Held.{Held}
use Rattle.sg_exec.specs.steps.Machines.{StepsDown}
use Rattle.sg_exec.proofs.PlacesHeld.{steps_none}
use Rattle.sg_exec.proofs.lanes.spots.below.Goals as goal

pub returns-in-Some-clause-steps : goal.returns-in-Some-clause-steps
returns-in-Some-clause-steps c = subst (λ (held : Option Held). StepsDown c.args.view.now c.args.node c.args.offset held c.below_held.result) (sym c.in-Some.is) c.below_held.ensures.steps

pub returns-in-None-clause-steps : goal.returns-in-None-clause-steps
returns-in-None-clause-steps c = subst (λ (held : Option Held). StepsDown c.args.view.now c.args.node c.args.offset held None) (sym c.in-None.is) (steps_none c.args.view.now c.args.node c.args.offset)
