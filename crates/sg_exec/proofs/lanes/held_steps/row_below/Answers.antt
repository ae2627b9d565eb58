use Rattle.std.proofs.Common.{◌≡◌, subst}
use Rattle.std.specs.Prelude.{Option, get_or}
use Rattle.sg_exec.specs.declared.lanes.held.Held.{Held}
use Rattle.sg_exec.specs.steps.Machines.{StepsDown}
use Rattle.sg_exec.specs.steps.Holding.{held_at}
use Rattle.sg_exec.proofs.HeldWords.{held_some}
use Rattle.sg_exec.proofs.lanes.held_steps.row_below.Goals as goal

pub all_below-requires : goal.all_below-requires
all_below-requires c = record { held = held_some c.args.view.now c.args.row.now c.held_in_some-here.result c.args.columns.now.on c.requires.held c.held_in_some-here.ensures.on c.held_in_some-here.ensures.others }

pub returns : goal.returns
returns c = λ k small on.
    subst (λ (held : Option Held). StepsDown c.args.view.now c.args.node (get_or c.args.offsets k 0) held (held_at c.all_below.result k)) (c.held_in_some-here.ensures.on k small on) (c.all_below.ensures k small)
