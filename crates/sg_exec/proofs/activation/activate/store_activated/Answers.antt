use Rattle.std.proofs.Common.{ℕ, ap, ◌∙◌, sym, subst, Some}
use Rattle.std.specs.Prelude.{unwrap_or}
use Rattle.sg_coord.specs.Bounds.{bounds_of}
use Rattle.sg_layout.specs.Axes.{bounds_of_shape}
use Rattle.sg_exec.specs.steps.Turning.{MayWant, WantsNone}
use Rattle.sg_exec.proofs.Uncapped.{empty_wanted}
use Rattle.sg_exec.proofs.AllActive.{meant_active, active_wanted}
use Rattle.sg_exec.proofs.Turning.{means_lists, below_all, means_inside}
use Rattle.sg_exec.proofs.Activating.{none_wanted, room_for, stands_with, no_room_for}
use Rattle.sg_exec.proofs.activation.activate.store_activated.Goals as goal

pub returns-then-not-turns_want-clause-reached : goal.returns-then-not-turns_want-clause-reached
returns-then-not-turns_want-clause-reached g c = λ wanted meant flat stands.
    empty_wanted c.args.store.now flat wanted (c.live_is_need.ensures c.args.store.now) c.layout.ensures.well_formed
    (none_wanted c.args.stores.now.list c.args.turns c.args.number c.args.store.now wanted
    (subst (λ (n : ℕ). WantsNone c.args.turns n) c.in_ok-layout.ensures (c.turns_want.ensures.none c.if-not-turns_want.true)) meant) stands

pub returns-then-active-clause-reached : goal.returns-then-active-clause-reached
returns-then-active-clause-reached g c = λ wanted meant flat stands.
    let store = c.args.store.now in
    active_wanted store flat wanted (c.live_is_need.ensures store) (c.need_grows.ensures.full store.shape) (c.closure_members.ensures.of_members store.shape) c.layout.ensures.well_formed
    (meant_active c.args.stores.now.list c.args.turns c.args.number store wanted (c.cells_are_active.ensures.active store) c.layout.ensures.well_formed (c.requires.active c.if-active.true) meant flat stands) stands

pub returns-in-Ok-clause-reached : goal.returns-in-Ok-clause-reached
returns-in-Ok-clause-reached g c = λ wanted meant flat stands.
    let store = c.args.store.now in
    let bounds = c.extents.ensures.value ∙ ap bounds_of_shape c.layout-2.ensures.layout in
    let below = below_all c.args.stores.now.list c.args.turns c.args.number store wanted c.in_ok-count.count (c.in_ok-count.ensures ∙ c.count_of.ensures) meant in
    let means = means_lists c.args.stores.now.list c.args.turns c.args.number c.in_ok-layout.layout store wanted _ c.in_ok-layout.ensures bounds meant in (
      room_for store.shape flat _ wanted below (c.in-Ok.ensures.answer _ means flat stands),
      stands_with store.shape flat (unwrap_or c.in-Ok.copy store) _ wanted below (c.in-Ok.ensures.activated _ means flat stands),
    )

pub returns-in-Err-Refused-clause-reached : goal.returns-in-Err-Refused-clause-reached
returns-in-Err-Refused-clause-reached g c = λ wanted meant flat stands.
    let store = c.args.store.now in
    let bounds = c.extents.ensures.value ∙ ap bounds_of_shape c.layout-2.ensures.layout in
    let below = below_all c.args.stores.now.list c.args.turns c.args.number store wanted c.in_ok-count.count (c.in_ok-count.ensures ∙ c.count_of.ensures) meant in
    let means = means_lists c.args.stores.now.list c.args.turns c.args.number c.in_ok-layout.layout store wanted _ c.in_ok-layout.ensures bounds meant in
    no_room_for c.args.number c.in_ok-layout.layout store.shape flat _ wanted c.in-Err-Refused.fault c.in_ok-layout.ensures below
    (rw c.in-Err-Refused.field-0-is at (c.in-Err-Refused.ensures.answer _ means flat stands)) ∙ ap Some (sym c.full_layout.ensures)

pub activated-requires-clause-within : goal.activated-requires-clause-within
activated-requires-clause-within g c κs within = λ list means piece below.
    means_inside c.args.stores.now.list c.args.turns (bounds_of c.extents.result) c.in_ok-layout.layout c.in_ok-count.count list c.numbering.ensures.inside_test
    (c.in_ok-count.ensures ∙ c.count_of.ensures) means piece below

pub returns-then-not-turns_want-clause-into : goal.returns-then-not-turns_want-clause-into
returns-then-not-turns_want-clause-into g c = λ made is. absurd (cc (is))

pub returns-then-active-clause-into : goal.returns-then-active-clause-into
returns-then-active-clause-into g c = λ made is. absurd (cc (is))

pub returns-in-Ok-clause-into : goal.returns-in-Ok-clause-into
returns-in-Ok-clause-into g c = λ made is. subst (MayWant c.args.turns) c.in_ok-layout.ensures (c.turns_want.ensures.text c.if-not-turns_want.false)
