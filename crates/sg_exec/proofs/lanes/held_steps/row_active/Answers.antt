use Rattle.std.proofs.Common.{subst}
use Rattle.std.specs.Prelude.{Option, get_or}
use Rattle.sg_exec.specs.declared.lanes.held.Held.{Held}
use Rattle.sg_exec.specs.steps.Accessing.{TellsActive}
use Rattle.sg_exec.proofs.HeldWords.{held_some}
use Rattle.sg_exec.proofs.lanes.held_steps.row_active.Goals as goal

pub all_active-requires : goal.all_active-requires
all_active-requires c = record { held = held_some c.args.view.now c.args.row.now c.held_in_some-here.result c.args.columns.now.on c.requires.held c.held_in_some-here.ensures.on c.held_in_some-here.ensures.others }

pub returns : goal.returns
returns c = λ k small on.
    subst (λ (held : Option Held). TellsActive c.args.view.now held (get_or c.all_active.result k 0)) (c.held_in_some-here.ensures.on k small on) (c.all_active.ensures k small)
