use Rattle.std.proofs.Common.{ap, ◌∙◌, sym, ◌+◌, ◌∷◌, ◌++◌, []}
use Rattle.trials_words.proofs.Stocks.{range-more}
use Rattle.trials_words.proofs.pointer.numbers.Goals as goal

pub loop-t-preserved : goal.loop-t-preserved
loop-t-preserved c = c.in_ok-push.ensures.ok ∙ ap (λ l. l ++ (1000 + c.loop-t.t) ∷ []) c.loop-t.invariant ∙ sym (range-more 1000 c.loop-t.t)
