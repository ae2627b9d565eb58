use Rattle.std.proofs.Common.{◌≡◌, ℕ, sym, subst}
use Rattle.std.specs.Prelude.{List, Option, None, get_or}
use Rattle.sg_ir.specs.Runs.{Place, down}
use Rattle.sg_exec.specs.declared.lanes.held.Held.{Held}
use Rattle.sg_exec.specs.Standing.{shapes_of}
use Rattle.sg_exec.specs.steps.Machines.{PlaceRows, HoldsPlace, StepsDown}
use Rattle.sg_exec.specs.steps.Rows.{item_in, On, IsPut}
use Rattle.sg_exec.proofs.HeldWords.{row_held, step_at}
use Rattle.sg_exec.proofs.PlacesHeld.{held_put}
use Rattle.sg_exec.proofs.Rows.{put_so}
use Rattle.sg_exec.proofs.lanes.places.Places.step.Goals as goal

pub row_below-under-requires : goal.row_below-under-requires
row_below-under-requires c = record { held = row_held c.self.inside.view c.self.inside.rows c.row-held.result c.args.place c.self.invariant c.row-held.ensures }

pub invariant_of-self : goal.invariant_of-self
invariant_of-self c =
    let Made : ℕ → Option Held → Type 0 = λ k held. StepsDown c.self.inside.view c.args.node (item_in c.args.regs.now 0 k c.args.offset) (item_in c.self.inside.rows None k c.args.place) held in
    held_put c.self.inside.view Made c.args.columns.now.on c.args.to c.self.inside.rows c.put.new.self
    (put_so _ Made (On c.args.columns.now.on) c.args.to None c.self.inside.rows c.put.new.self
    (λ k held small on is. step_at c.self.inside.view c.args.node held _ _ _ _ _ is (c.row-words.ensures k small) (c.row-held.ensures k small) (c.row_below-under.ensures k small on)) c.put.ensures)
    (λ k held is. is.held_below)
    c.self.invariant

pub returns-clause-put : goal.returns-clause-put
returns-clause-put c =
    let Made : PlaceRows → ℕ → Option Held → Type 0 =
    λ rows k held. (there : Option Place) → HoldsPlace rows.stores (item_in rows.list None k c.args.place) there
    → HoldsPlace rows.stores held (down (shapes_of rows.stores) c.args.node (item_in c.args.regs.now 0 k c.args.offset) there) in
    subst (λ (rows : PlaceRows). IsPut (Made rows) (On c.args.columns.now.on) c.args.to None rows.list c.put.new.self) c.self.view_is
    (put_so _ (Made (record { stores = c.self.inside.view; list = c.self.inside.rows })) (On c.args.columns.now.on) c.args.to None c.self.inside.rows c.put.new.self
    (λ k held small on is. (step_at c.self.inside.view c.args.node held _ _ _ _ _ is (c.row-words.ensures k small) (c.row-held.ensures k small) (c.row_below-under.ensures k small on)).holds) c.put.ensures)
