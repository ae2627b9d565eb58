use Rattle.std.proofs.Common.{◌≡◌, subst}
use Rattle.std.specs.Prelude.{Option, get_or}
use Rattle.sg_exec.specs.declared.lanes.held.Held.{Held}
use Rattle.sg_exec.specs.steps.Accessing.{IsValueAt}
use Rattle.sg_exec.proofs.HeldWords.{held_some}
use Rattle.sg_exec.proofs.lanes.held_steps.row_values.Goals as goal

pub all_values-requires : goal.all_values-requires
all_values-requires c = record { held = held_some c.args.view.now c.args.row.now c.held_in_some-here.result c.args.columns.now.on c.requires.held c.held_in_some-here.ensures.on c.held_in_some-here.ensures.others }

pub returns : goal.returns
returns c = λ k small on.
    subst (λ (held : Option Held). IsValueAt c.args.view.now held c.args.field (get_or c.all_values.result k 0)) (c.held_in_some-here.ensures.on k small on) (c.all_values.ensures k small)
