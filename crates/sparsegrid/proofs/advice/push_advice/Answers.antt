use Rattle.std.proofs.Common.{◌≡◌, ℕ, List, ◌++◌, map, sym, ap, ◌∙◌, subst}
use Rattle.std.specs.Prelude.{codes}
use Rattle.std.specs.Fmt.{decimal}
use Rattle.sg_layout.specs.declared.shape.Shape.{Shape}
use Rattle.sg_session.specs.Performed.{SessionParts}
use Rattle.sg_convert.specs.declared.advising.Count.{Count}
use Rattle.sg_convert.specs.Advised.{IsAdvice, counted}
use Rattle.sparsegrid.specs.Advice.{advice_line, count_lines}
use Rattle.sparsegrid.proofs.AdviceLines.{advised, stand_same}
use Rattle.sparsegrid.proofs.advice.push_advice.Goals as goal

pub returns : goal.returns
returns g c = λ state stands.
    let session = c.args.session.now in
    let number = c.args.number in
    let advice = c.in_ok-advice.advice in
    let old = c.args.text.now.items in
    let first = c.push_counts.new.text.items in
    let second = c.push_best.new.text.items in
    let is = c.in_ok-advice.ensures.advice state
    (stand_same session.compiled.layouts c.layouts_of.result.now.list session.stores c.session.inside.stores.list state c.layouts_of.ensures (ap (λ (s : SessionParts). s.stores) c.session.view_is) stands) in
    advised session.compiled.names session.compiled.layouts state number advice old first second c.extend_from_slice.new.self.items c.in_ok-line.line.bytes
    (subst (λ (list : List Shape). IsAdvice list state.layouts number advice) c.layouts_of.ensures is)
    (c.in_ok-push_counts.ensures
    ∙ ap (λ (cs : List Count). old ++ count_lines c.session.inside.compiled.names number (map counted cs)) c.as_slice.ensures
    ∙ ap (λ (s : SessionParts). old ++ count_lines s.compiled.names number (map counted advice.counts)) c.session.view_is)
    (c.in_ok-push_best.ensures ∙ ap (λ (s : SessionParts). first ++ advice_line (codes "best ") s.compiled.names number advice.best (decimal advice.words)) c.session.view_is)
    (c.in_ok-extend_from_slice.ensures.items ∙ ap (λ (t : List ℕ). second ++ t) c.as_slice-2.ensures)
    (c.in_ok-line.ensures state stands)
