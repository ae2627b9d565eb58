use Rattle.std.proofs.Common.{ℕ, ◌++◌, Some, refl, sym, ap, ◌∙◌, subst}
use Rattle.sg_coord.specs.Coord.{Inside}
use Rattle.sg_layout.specs.declared.shape.Shape.{Shape}
use Rattle.sg_layout.specs.Axes.{bounds_of_shape}
use Rattle.sg_layout.specs.Closure.{closure}
use Rattle.sg_layout.specs.Need.{first_full}
use Rattle.sg_layout.specs.NeedLaws.{AllInside}
use Rattle.sg_flat.specs.declared.state.FlatLayout.{FlatLayout}
use Rattle.sg_flat.specs.State.{opening_layout}
use Rattle.sg_store.specs.Reaching.{unless_full}
use Rattle.sg_convert.specs.Advising.{used_unless}
use Rattle.sg_convert.proofs.Opens.{opened_full}
use Rattle.sg_convert.proofs.Advises.{fits, is_too_full, used_is}
use Rattle.sg_convert.proofs.advising.words_for.Goals as goal

pub returns-in-Ok : goal.returns-in-Ok
returns-in-Ok c =
    let layout = c.args.layout.now in
    let kept = c.args.kept.now in
    let fresh = c.in_ok-fresh.fresh in
    let store = c.in-Ok.store in
    let shaped = c.in_ok-fresh.ensures.shape in
    let opening = opening_layout layout in
    let flat : FlatLayout = record opening { active = closure fresh.shape (opening.active ++ kept) } in
    let inside : AllInside layout kept = λ at has. subst (Inside (bounds_of_shape layout)) has.2 (c.requires.inside has.0 at has.1) in
    let full = fits layout kept (first_full layout kept) (ap unless_full (sym (opened_full layout fresh.shape (c.need_absorbs.ensures.full layout) shaped kept kept refl)) ∙ c.in-Ok.ensures.answer opening c.in_ok-fresh.ensures.opening) in
    let used = used_is layout c.shape.ensures.accepted (c.closure_closes.ensures.absorbs layout) (c.need_absorbs.ensures.absorbs layout) kept inside store (c.live_is_need.ensures store) c.in-Ok.ensures.well_formed flat
    (c.in-Ok.ensures.keeps.same_shape ∙ shaped) (ap (λ (s : Shape). closure s (opening.active ++ kept)) shaped) (c.in-Ok.ensures.reached opening c.in_ok-fresh.ensures.opening) in
    ap (λ (n : ℕ). Some n) (c.used_of.ensures ∙ used) ∙ sym (ap (used_unless layout kept) full)

pub returns-in-Err-Refused : goal.returns-in-Err-Refused
returns-in-Err-Refused c =
    let layout = c.args.layout.now in
    let kept = c.args.kept.now in
    let fresh = c.in_ok-fresh.fresh in
    let answer = rw c.in-Err-Refused.field-0-is at c.in-Err-Refused.ensures.answer in
    sym (is_too_full layout kept (first_full layout kept) c.in-Err-Refused._full
    (ap unless_full (sym (opened_full layout fresh.shape (c.need_absorbs.ensures.full layout) c.in_ok-fresh.ensures.shape kept kept refl)) ∙ answer (opening_layout layout) c.in_ok-fresh.ensures.opening))
