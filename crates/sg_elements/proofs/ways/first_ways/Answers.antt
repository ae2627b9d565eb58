use Rattle.std.proofs.Common.{◌++◌, ◌∷◌, [], List, ap, ◌∙◌, sym, arith}
use Rattle.std.proofs.lemmas.List.FromFn.{map-range_with_len_more}
use Rattle.sg_elements.specs.declared.ways.Way.{Way}
use Rattle.sg_elements.specs.steps.Levels.{way_of}
use Rattle.sg_elements.proofs.ways.first_ways.Goals as goal

pub loop-offset-preserved : goal.loop-offset-preserved
loop-offset-preserved c =
    let f = way_of c.args.layout.now c.args.node in
    let offset = c.loop-offset.offset in
    c.in_ok-push.ensures.ok
    ∙ ap (λ (way : Way). c.loop-offset.ways ++ way ∷ []) c.way_over.ensures
    ∙ ap (λ (ways : List Way). ways ++ f offset ∷ []) c.loop-offset.invariant
    ∙ sym (map-range_with_len_more f 0 offset offset (omega arith))
