use Rattle.std.proofs.Common.{◌≡◌, ◌+◌, List, [], ◌∷◌, ◌++◌, map, drop, sym, ap, ◌∙◌}
use Rattle.std.proofs.lemmas.List.{drop_more, append-nil}
use Rattle.sg_convert.specs.declared.advising.Count.{Count}
use Rattle.sg_convert.specs.Advised.{counted}
use Rattle.sparsegrid.specs.Advice.{count_lines}
use Rattle.sparsegrid.proofs.AdviceLines.{counted_on}
use Rattle.sparsegrid.proofs.advice.push_counts.Goals as goal

pub loop-count-preserved : goal.loop-count-preserved
loop-count-preserved c =
    let names = c.args.compiled.now.names in
    let number = c.args.number in
    let counts = c.args.counts.now in
    let i = c.loop-count.count-index in
    let text = c.loop-count.text.items in
    counted_on names number text c.push_count.new.text.items _ (counted _) (map counted (drop (i + 1) counts)) c.in_ok-push_count.ensures
    (ap (λ (cs : List Count). text ++ count_lines names number (map counted cs)) (sym (drop_more counts i _ c.loop-count-test.true)) ∙ c.loop-count.invariant)
