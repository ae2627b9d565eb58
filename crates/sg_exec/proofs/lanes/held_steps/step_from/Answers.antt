use Rattle.std.proofs.Common.{sym, subst}
use Rattle.std.specs.Prelude.{Option, IfSome}
use Rattle.sg_exec.specs.declared.lanes.held.Held.{Held}
use Rattle.sg_exec.specs.steps.Machines.{IsHeld, StepsDown}
use Rattle.sg_exec.specs.steps.Holding.{held_of}
use Rattle.sg_exec.proofs.lanes.held_steps.step_from.Goals as goal

pub words_below-below-requires : goal.words_below-below-requires
words_below-below-requires c = record {
  known = c.requires.known;
  held = subst (λ (held : Option Held). IfSome held (IsHeld c.args.view.now)) (sym c.held_where-held.ensures.is) c.requires.held;
  layout = c.held_where-held.ensures.layout;
}

pub returns-clause-step : goal.returns-clause-step
returns-clause-step c =
    subst (λ (held : Option Held). StepsDown c.args.view.now c.args.node c.args.offset held (held_of c.words_below-below.result.kind c.words_below-below.result.part c.words_below-below.result.slot)) c.held_where-held.ensures.is c.words_below-below.ensures
