use Rattle.std.proofs.Common.{◌≡◌, List, Some, sym, ap, ◌∙◌, subst}
use Rattle.sg_layout.specs.declared.shape.Shape.{Shape}
use Rattle.sg_store.specs.StoreWords.{StoreWords}
use Rattle.sg_session.specs.Performed.{SessionParts, HasState}
use Rattle.sg_convert.specs.Alike.{AreAlike}
use Rattle.sg_convert.proofs.Uses.{shape_is_at}
use Rattle.sparsegrid.specs.Lines.{layout_text}
use Rattle.sparsegrid.proofs.AdviceLines.{store_at, alike_stores, never_full, converted_done}
use Rattle.sparsegrid.proofs.advice.converted_line.Goals as goal

pub convert-requires-clause-alike : goal.convert-requires-clause-alike
convert-requires-clause-alike g c κs within =
    let session = c.args.session.now in
    let has = subst (λ (s : SessionParts). HasState s.compiled.layouts s.stores) c.session.view_is c.session.invariant in
    let same = c.as_slice-stores.ensures ∙ ap (λ (s : SessionParts). s.stores) c.session.view_is in
    let at = store_at session.compiled.layouts session.stores c.as_slice-stores.result.now has.1.shapes_are same in
    subst (AreAlike c.index-stores-number.result.shape) (sym c.layout-to.ensures.layout)
    (alike_stores session.compiled.layouts session.stores has.1.shapes_are c.args.number c.args.advice.now.best c.requires.alike c.index-stores-number.result c.index-stores-advice.result
    (at c.args.number c.index-stores-number.result c.requires.there c.index-stores-number.is)
    (at c.args.advice.now.best c.index-stores-advice.result c.requires.alike.there c.index-stores-advice.is))

pub unreachable-requires : goal.unreachable-requires
unreachable-requires g c =
    let session = c.args.session.now in
    let has = subst (λ (s : SessionParts). HasState s.compiled.layouts s.stores) c.session.view_is c.session.invariant in
    let same = c.as_slice-stores.ensures ∙ ap (λ (s : SessionParts). s.stores) c.session.view_is in
    let at = store_at session.compiled.layouts session.stores c.as_slice-stores.result.now has.1.shapes_are same in
    let refused = rw c.in-Err-Refused.field-0-is at c.in-Err-Refused.ensures.answer in
    never_full session.compiled.layouts session.stores has.0 c.args.number c.args.advice.now c.index-stores-number.result c.layout-to.result.now has.1 (c.requires.advised has.0 has.1)
    (at c.args.number c.index-stores-number.result c.requires.there c.index-stores-number.is)
    (shape_is_at session.stores session.compiled.layouts has.1.shapes_are c.args.advice.now.best c.index-stores-advice.result
    (at c.args.advice.now.best c.index-stores-advice.result c.requires.alike.there c.index-stores-advice.is) ∙ ap (λ (s : Shape). Some s) (sym c.layout-to.ensures.layout))
    c.in-Err-Refused._full refused

pub returns-in-Ok : goal.returns-in-Ok
returns-in-Ok g c =
    let session = c.args.session.now in
    let has = subst (λ (s : SessionParts). HasState s.compiled.layouts s.stores) c.session.view_is c.session.invariant in
    let same = c.as_slice-stores.ensures ∙ ap (λ (s : SessionParts). s.stores) c.session.view_is in
    let at = store_at session.compiled.layouts session.stores c.as_slice-stores.result.now has.1.shapes_are same in
    converted_done session.compiled.layouts session.stores c.args.number c.args.advice.now.best c.index-stores-number.result c.layout-to.result.now
    (at c.args.number c.index-stores-number.result c.requires.there c.index-stores-number.is)
    (shape_is_at session.stores session.compiled.layouts has.1.shapes_are c.args.advice.now.best c.index-stores-advice.result
    (at c.args.advice.now.best c.index-stores-advice.result c.requires.alike.there c.index-stores-advice.is) ∙ ap (λ (s : Shape). Some s) (sym c.layout-to.ensures.layout))
    c.in-Ok.converted c.in-Ok.ensures.shape c.in-Ok.ensures.converted c.layout_text-name.result.now (layout_text session.compiled.names c.args.advice.now.best)
    (c.layout_text-name.ensures ∙ ap (λ (s : SessionParts). layout_text s.compiled.names c.args.advice.now.best) c.session.view_is)
    c.stats_by_workers.result c.stats_by_workers.ensures
