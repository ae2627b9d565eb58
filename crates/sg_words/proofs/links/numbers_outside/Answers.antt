use Rattle.std.proofs.Common.{ap, sym, ◌∙◌, cond, Bool, false, List, ℕ, ◌++◌, [], ◌∷◌, take}
use Rattle.std.specs.Prelude.{slice_index, slice_index_or}
use Rattle.sg_words.proofs.LinkLoops.{outside-more}
use Rattle.sg_words.proofs.links.numbers_outside.Goals.{then-not-is_marked+in_ok-push, else-not-is_marked}
use Rattle.sg_words.proofs.links.numbers_outside.Goals as goal

pub loop-number-preserved : goal.loop-number-preserved
loop-number-preserved c =
    let drawn = take c.min-most.result c.args.stock.now in
    let x = slice_index drawn c.loop-number.number-index in
    let kept : Bool → List ℕ = λ b. cond b c.loop-number.spares (c.loop-number.spares ++ x ∷ []) in
    outside-more (λ x. slice_index_or c.args.set.now x false) drawn c.loop-number.spares c.if-not-is_marked.spares c.loop-number.number-index c.loop-number-test.true
    (elim c.if-not-is_marked.branch [
      | then-not-is_marked+in_ok-push w ↦ w.spares-is ∙ w.in_ok-push.ensures.ok ∙ sym (ap kept (sym c.is_marked.ensures ∙ w.if-not-is_marked.true))
      | else-not-is_marked w ↦ w.spares-is ∙ sym (ap kept (sym c.is_marked.ensures ∙ w.if-not-is_marked.false))
    ])
    ∙ c.loop-number.invariant
