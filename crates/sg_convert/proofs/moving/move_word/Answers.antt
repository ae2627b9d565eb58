use Rattle.std.proofs.Common.{◌≡◌, ◌<◌, List, length, sym, ap, ◌∙◌, subst, arith}
use Rattle.sg_words.specs.declared.operators.Ty.{Ty}
use Rattle.sg_layout.specs.declared.shape.Shape.{Shape}
use Rattle.sg_convert.specs.steps.Moving.{word_or_zero}
use Rattle.sg_convert.proofs.Moved.{reached_too, fields_more}
use Rattle.sg_convert.proofs.moving.move_word.Goals as goal

pub loop-place-preserved : goal.loop-place-preserved
loop-place-preserved c =
    let from = c.args.from.now in
    let old = c.args.store.now in
    let mid = c.loop-place.store in
    let many : c.len-place-end.result ≡ length from.shape.fields = c.len-place-end.ensures ∙ ap (λ (s : Shape). length s.fields) (c.shape.ensures.value ∙ c.layout.ensures.layout) in
    let there : c.loop-place.place < length from.shape.fields = omega (arith, many, c.loop-place-test.true) in
    let own : c.loop-place.place < length old.shape.fields = subst (λ (tys : List Ty). c.loop-place.place < length tys) (sym c.requires) there in
    fields_more from old mid c.set.new.self c.args.at c.in-Some.cell c.loop-place.place c.word_at.result c.layout-in-loop-place.ensures.well_formed c.loop-place.invariant (sym c.in-Some.ensures.value)
    (subst (λ (s : Shape). c.loop-place.place < length s.fields) (sym c.loop-place.invariant.tree.shape) own)
    (reached_too old mid c.loop-place.invariant.tree c.in-Some.cell c.in-Some.ensures.reached)
    (c.word_at.ensures ∙ ap (word_or_zero from c.loop-place.place) c.cell_of-source.ensures.value) c.set.ensures.set
