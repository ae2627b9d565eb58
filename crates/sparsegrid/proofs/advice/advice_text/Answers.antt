use Rattle.std.proofs.Common.{◌≡◌, ◌<◌, ◌≤◌, ◌+◌, List, [], ◌++◌, length, drop, sym, ap, ◌∙◌, arith}
use Rattle.std.proofs.lemmas.List.{drop_all, append-nil}
use Rattle.sg_layout.specs.declared.shape.Shape.{Shape}
use Rattle.sparsegrid.specs.Advice.{advice_text, lines_from}
use Rattle.sparsegrid.proofs.AdviceLines.{lines_on}
use Rattle.sparsegrid.proofs.advice.advice_text.Goals as goal

pub loop-number-preserved : goal.loop-number-preserved
loop-number-preserved g c = λ state stands.
    let session = c.args.session.now in
    let many = c.len-count.ensures ∙ ap length c.layouts_of.ensures in
    lines_on session.compiled.names session.compiled.layouts state c.loop-number.number c.loop-number.text.items c.push_advice.new.text.items
    (advice_text session.compiled.names session.compiled.layouts state) (omega (arith, c.loop-number-test.true, many))
    (c.in_ok-push_advice.ensures state stands) (c.loop-number.invariant state stands)

pub returns : goal.returns
returns g c = λ state stands.
    let session = c.args.session.now in
    let many = c.len-count.ensures ∙ ap length c.layouts_of.ensures in
    c.from_vec.ensures ∙ sym (append-nil c.loop-number.text.items)
    ∙ ap (λ (xs : List Shape). c.loop-number.text.items ++ lines_from session.compiled.names session.compiled.layouts state c.loop-number.number xs)
    (sym (drop_all c.loop-number.number session.compiled.layouts (omega (arith, c.loop-number-test.false, many))))
    ∙ c.loop-number.invariant state stands
