use Rattle.std.proofs.Common.{◌≡◌, suc, ◌+◌, List, [], ◌∷◌, ◌++◌, map, drop, sym, ap, ◌∙◌, arith}
use Rattle.std.proofs.lemmas.List.{append_assoc, drop_more}
use Rattle.sg_layout.specs.declared.shape.Shape.{Shape}
use Rattle.sg_convert.specs.Advising.{Counted, counts_from}
use Rattle.sg_convert.specs.Advised.{counted}
use Rattle.sg_convert.proofs.Advises.{counts_more}
use Rattle.sg_convert.proofs.advising.counts_of.Goals as goal

pub loop-number-preserved : goal.loop-number-preserved
loop-number-preserved c =
    let one = c.args.one.now in
    let kept = c.args.kept.now in
    let layouts = c.args.layouts.now in
    let n = c.loop-number.number in
    let other = c.index-layouts-number.result in
    let later : List Shape = drop (n + 1) layouts in
    let old : List Counted = map counted c.loop-number.counts in
    let on : n + 1 ≡ suc n = omega arith in
    let split : drop n layouts ≡ other ∷ later = drop_more layouts n other c.loop-number-test.true ∙ ap (λ (x : Shape). x ∷ later) (sym c.index-layouts-number.is) in
    ap (λ (xs : List Counted). xs ++ counts_from one kept (n + 1) later) c.in_ok-count_one.ensures
    ∙ append_assoc old (counts_from one kept n (other ∷ [])) (counts_from one kept (n + 1) later)
    ∙ ap (λ m. old ++ (counts_from one kept n (other ∷ []) ++ counts_from one kept m later)) on
    ∙ ap (λ (xs : List Counted). old ++ xs) (sym (counts_more one kept n other later))
    ∙ ap (λ (xs : List Shape). old ++ counts_from one kept n xs) (sym split)
    ∙ c.loop-number.invariant
