use Rattle.std.proofs.Common.{List, take, get_or, pos, sym, ◌∙◌, ap, subst}
use Rattle.std.proofs.lemmas.List.{take_more}
use Rattle.sg_coord.specs.declared.coord.Coord.{Coord}
use Rattle.sg_layout.specs.declared.shape.Shape.{Shape}
use Rattle.sg_convert.specs.steps.Moving.{HasMoved}
use Rattle.sg_convert.proofs.Moved.{none_moved, one_moved}
use Rattle.sg_convert.proofs.moving.move_words.Goals as goal

pub loop-at-init : goal.loop-at-init
loop-at-init c = none_moved c.args.from.now c.args.store.now

pub move_word-requires : goal.move_word-requires
move_word-requires c = ap (λ (s : Shape). s.fields) c.loop-at.invariant.tree.shape ∙ c.requires

pub loop-at-preserved : goal.loop-at-preserved
loop-at-preserved c =
    let coords = c.args.coords.now in
    let i = c.loop-at.at-index in
    let at : Coord = get_or coords i (record { n = 0; a = pos 0; b = pos 0; c = pos 0 }) in
    subst (λ (list : List Coord). HasMoved c.args.from.now c.args.store.now c.move_word.new.store list) (sym (take_more coords i (record { n = 0; a = pos 0; b = pos 0; c = pos 0 }) c.loop-at-test.true))
    (one_moved c.args.from.now c.args.store.now c.loop-at.store c.move_word.new.store (take i coords) at (c.cells_are_active.ensures.differ c.args.store.now) c.layout.ensures.well_formed c.loop-at.invariant c.move_word.ensures)
