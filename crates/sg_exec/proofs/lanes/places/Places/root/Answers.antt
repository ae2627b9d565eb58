use Rattle.std.proofs.Common.{◌≡◌, ℕ, sym, ◌∙◌, subst, arith}
use Rattle.std.specs.Prelude.{[], Option, Some, None, IfSome}
use Rattle.sg_exec.specs.declared.lanes.held.Held.{Held}
use Rattle.sg_exec.specs.steps.Machines.{PlaceRows, HoldsPlace, IsHeld}
use Rattle.sg_exec.specs.steps.Rows.{On, IsPut}
use Rattle.sg_exec.proofs.PlacesHeld.{held_put}
use Rattle.sg_exec.proofs.Rows.{put_so}
use Rattle.sg_exec.proofs.lanes.places.Places.root.Goals as goal

pub words_of-requires : goal.words_of-requires
words_of-requires c = c.root_of-held.ensures.fits (omega (arith, c.if-layout-ge-MOST_LAYOUTS.false))

pub invariant_of-self : goal.invariant_of-self
invariant_of-self c =
    let Made : ℕ → Option Held → Type 0 = λ k held. held ≡ c.root_of-held.result in
    held_put c.self.inside.view Made c.args.columns.now.on c.args.to c.self.inside.rows c.put.new.self
    (put_so _ Made (On c.args.columns.now.on) c.args.to None c.self.inside.rows c.put.new.self (λ k held small on is. is ∙ c.in_all-row.ensures k small ∙ c.words_of.ensures) c.put.ensures)
    (λ k held is. subst (λ (found : Option Held). IfSome found (IsHeld c.self.inside.view)) (sym is) c.root_of-held.ensures.held)
    c.self.invariant

pub returns-clause-put : goal.returns-clause-put
returns-clause-put c = λ told.
    let Made : PlaceRows → ℕ → Option Held → Type 0 = λ rows k held. HoldsPlace rows.stores held (Some (record { layout = c.args.layout; path = [] })) in
    subst (λ (rows : PlaceRows). IsPut (Made rows) (On c.args.columns.now.on) c.args.to None rows.list c.put.new.self) c.self.view_is
    (put_so _ (Made (record { stores = c.self.inside.view; list = c.self.inside.rows })) (On c.args.columns.now.on) c.args.to None c.self.inside.rows c.put.new.self
    (λ k held small on is. subst (λ (found : Option Held). HoldsPlace c.self.inside.view found (Some (record { layout = c.args.layout; path = [] }))) (sym (is ∙ c.in_all-row.ensures k small ∙ c.words_of.ensures)) c.root_of-held.ensures.holds) c.put.ensures)
