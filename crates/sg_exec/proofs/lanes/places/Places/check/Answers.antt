use Rattle.std.proofs.Common.{◌≡◌, ℕ, ◌+◌, ◌*◌, sym, ap, ◌∙◌, subst}
use Rattle.std.specs.Prelude.{List, Option, None, IfSome, get_or, if◌then◌else◌}
use Rattle.sg_words.specs.declared.operators.Ty.TheVariants as ty
use Rattle.sg_words.specs.Words.{number}
use Rattle.sg_coord.specs.Coord.{is_on_axis}
use Rattle.sg_exec.specs.declared.lanes.held.Held.{Held}
use Rattle.sg_exec.specs.steps.Machines.{PlaceRows, IsHeld}
use Rattle.sg_exec.specs.steps.Rows.{item_in, On, IsPut}
use Rattle.sg_exec.proofs.HeldWords.{check_at}
use Rattle.sg_exec.proofs.PlacesHeld.{held_put, held_check}
use Rattle.sg_exec.proofs.Rows.{put_so}
use Rattle.sg_exec.proofs.lanes.places.Places.check.Goals as goal

pub invariant_of-self : goal.invariant_of-self
invariant_of-self c =
    let Made : ℕ → Option Held → Type 0 =
    λ k held. held ≡ (if is_on_axis c.args.extent (number ty.I32 (item_in c.args.regs.now 0 k c.args.index)) then item_in c.self.inside.rows None k c.args.place else None) in
    held_put c.self.inside.view Made c.args.columns.now.on c.args.to c.self.inside.rows c.put.new.self
    (put_so _ Made (On c.args.columns.now.on) c.args.to None c.self.inside.rows c.put.new.self
    (λ k held small on is. check_at c.args.extent held _ _ _ _ _ is (c.checked-passing.ensures k small) (c.row-words.ensures k small) (c.row-held.ensures k small)) c.put.ensures)
    (λ k held is. subst (λ (found : Option Held). IfSome found (IsHeld c.self.inside.view)) (sym is)
    (held_check c.self.inside.view (item_in c.self.inside.rows None k c.args.place) (is_on_axis c.args.extent (number ty.I32 (item_in c.args.regs.now 0 k c.args.index))) (c.self.invariant (c.args.place * 32 + k))))
    c.self.invariant

pub returns-clause-put : goal.returns-clause-put
returns-clause-put c =
    let Made : List (Option Held) → ℕ → Option Held → Type 0 =
    λ items k held. held ≡ (if is_on_axis c.args.extent (number ty.I32 (item_in c.args.regs.now 0 k c.args.index)) then item_in items None k c.args.place else None) in
    subst (λ (rows : PlaceRows). IsPut (Made rows.list) (On c.args.columns.now.on) c.args.to None rows.list c.put.new.self) c.self.view_is
    (put_so _ (Made c.self.inside.rows) (On c.args.columns.now.on) c.args.to None c.self.inside.rows c.put.new.self
    (λ k held small on is. check_at c.args.extent held _ _ _ _ _ is (c.checked-passing.ensures k small) (c.row-words.ensures k small) (c.row-held.ensures k small)) c.put.ensures)
