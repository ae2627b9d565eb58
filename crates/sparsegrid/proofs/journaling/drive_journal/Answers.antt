use Rattle.std.proofs.Common.{ap, ◌∙◌, refl, subst, map, List, [], Err, Ok}
use Rattle.std.specs.Prelude.{All}
use Rattle.sg_layout.specs.declared.shape.Shape.{Shape}
use Rattle.sg_exec.specs.Standing.{StandForState}
use Rattle.sg_store.specs.WellFormed.{IsWellFormed}
use Rattle.sg_journal.specs.Changes.{changes}
use Rattle.sg_journal.specs.Placing.{Placing, nothing_placed}
use Rattle.sg_session.specs.Bindings.{binding_read}
use Rattle.sg_session.specs.Performed.{SessionParts}
use Rattle.sparsegrid.specs.Outcome.{output_of, outside_of}
use Rattle.sg_journal.specs.PlacingLaws.{HoldsPlaced, IsSoundPlacing}
use Rattle.sg_journal.specs.Rooms.{rooms_of}
use Rattle.sparsegrid.specs.Parts.{IsWhereHeld}
use Rattle.sparsegrid.specs.steps.Leading.{PutsChanges}
use Rattle.sparsegrid.proofs.Going.{stays_same}
use Rattle.sparsegrid.proofs.PartsWritten.{begun_with, kept_on, kept_at_first, kept_without}
use Rattle.sparsegrid.proofs.journaling.drive_journal.Goals as goal

-- where nothing stands
nothing_held : (shapes : List Shape) → HoldsPlaced [] (nothing_placed shapes) → IsSoundPlacing (rooms_of shapes) (nothing_placed shapes) → IsWhereHeld [] (nothing_placed shapes)
nothing_held shapes holds sound = record { holds = holds; rising = sound.numbers }

pub drive_on-requires-clause-placed : goal.drive_on-requires-clause-placed
drive_on-requires-clause-placed g c = λ lifetimes outlive. c.in-Ok.ensures.1

pub returns-in-Ok-clause-went : goal.returns-in-Ok-clause-went
returns-in-Ok-clause-went g c = λ program compiles earlier start stand.
    let stores = c.args.session.now.stores in
    let placed = c.in-Ok.placed.layouts in
    let from = c.in-Ok.ensures.0 ∙ ap (λ (shapes : List Shape). nothing_placed shapes) compiles.layouts in
    let sent = subst (λ (p : Placing). PutsChanges {A = Unit} (Err c.in-Err-send_changes.why) (changes p placed) (output_of g.S.Sink c.args.out.now) (output_of g.S.Sink c.send_changes.new.out)) from c.in-Err-send_changes.ensures.sends in
    kept_at_first c.yes_is_sound.ensures program (map binding_read c.args.asked.now.binds.list) earlier start c.args.tasks.now (changes (nothing_placed program.layouts) placed)
    (outside_of g.F.Files g.S.Sink c.args.files.now c.args.out.now) placed _ c.in-Err-send_changes.why
    (λ fits. begun_with c.stores_change.ensures.begin (λ shapes. nothing_held shapes (c.nothing_is_placed.ensures.held shapes) (c.nothing_is_placed.ensures.sound shapes)) program start stores placed (subst (All IsWellFormed) (ap (λ (s : SessionParts). s.stores) c.session.view_is) c.well_formed-2.ensures) (subst (λ (shapes : List Shape). StandForState shapes stores start) compiles.layouts stand) c.in-Ok.ensures.1 fits)
    sent refl refl refl

pub returns-in-Ok-send_changes-clause-went : goal.returns-in-Ok-send_changes-clause-went
returns-in-Ok-send_changes-clause-went g c = λ program compiles earlier start stand.
    let stores = c.args.session.now.stores in
    let placed = c.in-Ok.placed.layouts in
    let from = c.in-Ok.ensures.0 ∙ ap (λ (shapes : List Shape). nothing_placed shapes) compiles.layouts in
    let sent = subst (λ (p : Placing). PutsChanges {A = Unit} (Ok tt) (changes p placed) (output_of g.S.Sink c.args.out.now) (output_of g.S.Sink c.send_changes.new.out)) from c.in-Ok-send_changes.ensures.sends in
    let begins = begun_with c.stores_change.ensures.begin (λ shapes. nothing_held shapes (c.nothing_is_placed.ensures.held shapes) (c.nothing_is_placed.ensures.sound shapes)) program start stores placed (subst (All IsWellFormed) (ap (λ (s : SessionParts). s.stores) c.session.view_is) c.well_formed-2.ensures) (subst (λ (shapes : List Shape). StandForState shapes stores start) compiles.layouts stand) c.in-Ok.ensures.1 sent.1 in
    kept_on c.yes_is_sound.ensures program (map binding_read c.args.asked.now.binds.list) earlier start c.args.tasks.now (changes (nothing_placed program.layouts) placed)
    (outside_of g.F.Files g.S.Sink c.args.files.now c.args.out.now) (outside_of g.F.Files g.S.Sink c.args.files.now c.send_changes.new.out) _ _ sent.0 refl refl refl refl
    (c.drive_on.ensures.went program compiles earlier start stand (changes (nothing_placed program.layouts) placed) begins)

pub returns-clause-went : goal.returns-clause-went
returns-clause-went g c = λ program compiles earlier start stand.
    kept_without c.yes_is_sound.ensures program (map binding_read c.args.asked.now.binds.list) earlier start c.args.tasks.now []
    (outside_of g.F.Files g.S.Sink c.args.files.now c.args.out.now) _ (stays_same _) refl refl refl
