use Rattle.std.proofs.Common.{subst}
use Rattle.std.specs.Prelude.{Option, None, get_or}
use Rattle.sg_exec.specs.declared.lanes.held.Held.{Held}
use Rattle.sg_exec.specs.steps.Machines.{PlaceRows}
use Rattle.sg_exec.specs.steps.Accessing.{TellsActive}
use Rattle.sg_exec.specs.steps.Rows.{item_in}
use Rattle.sg_exec.proofs.HeldWords.{row_held}
use Rattle.sg_exec.proofs.lanes.places.Places.active.Goals as goal

pub row_active-requires : goal.row_active-requires
row_active-requires c = record { held = row_held c.self.inside.view c.self.inside.rows c.row-held.result c.args.place c.self.invariant c.row-held.ensures }

pub returns : goal.returns
returns c = λ k small on.
    subst (λ (rows : PlaceRows). TellsActive rows.stores (item_in rows.list None k c.args.place) (get_or c.row_active.result k 0)) c.self.view_is
    (subst (λ (held : Option Held). TellsActive c.self.inside.view held (get_or c.row_active.result k 0)) (c.row-held.ensures k small) (c.row_active.ensures k small on))
