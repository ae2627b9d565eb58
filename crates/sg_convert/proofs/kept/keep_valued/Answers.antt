use Rattle.std.proofs.Common.{List, take, get_or, pos, sym, ap, ◌∷◌, [], ◌++◌, ◌∙◌}
use Rattle.std.specs.List.{filter}
use Rattle.std.proofs.lemmas.List.{take_more}
use Rattle.std.proofs.lemmas.List.Elements.{filter-append}
use Rattle.sg_coord.specs.declared.coord.Coord.{Coord}
use Rattle.sg_convert.specs.steps.Moving.{is_valued}
use Rattle.sg_convert.proofs.kept.keep_valued.Goals as goal

pub loop-at-preserved : goal.loop-at-preserved
loop-at-preserved c =
    let test = is_valued c.args.store.now in
    let coords = c.args.coords.now in
    let i = c.loop-at.at-index in
    let d : Coord = record { n = 0; a = pos 0; b = pos 0; c = pos 0 } in
    c.in_ok-keep_one.ensures
    ∙ ap (λ (list : List Coord). list ++ filter test (get_or coords i d ∷ [])) c.loop-at.invariant
    ∙ sym (filter-append test (take i coords) (get_or coords i d ∷ []))
    ∙ ap (filter test) (sym (take_more coords i d c.loop-at-test.true))
