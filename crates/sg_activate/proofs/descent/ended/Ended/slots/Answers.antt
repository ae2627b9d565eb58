use Rattle.std.proofs.Common.{◌∙◌, sym, subst, ◌+◌, ◌≤◌}
use Rattle.std.specs.Prelude.{slice_index_or}
use Rattle.sg_activate.specs.declared.descent.rule.SlotPart.{SlotPart}
use Rattle.sg_activate.proofs.DescentParted.{pointer_level, slots_read, slots_fit, slots_are}
use Rattle.sg_activate.proofs.descent.ended.Ended.slots.Goals as goal

none : SlotPart
none = record { slots = 0; places = 0; limit = 0; stock = 0; over = 0; width = 0 }

pub range-requires : goal.range-requires
unfolding none
range-requires c =
    let e = c.args.self.now in
    let level = c.level-level.result in
    let l = pointer_level e.start e.base e.levels e.levels_are c.args.index c.requires.there level c.level-level.ensures c.requires.pointer in
    let many = slots_read e.start e.base e.levels e.levels_are c.args.index c.requires.there c.as_slice.result.now none level.part c.as_slice.ensures l.0 in
    record { fits = subst (λ n. level.first + (slice_index_or c.as_slice.result.now level.part none).slots ≤ n) (sym c.requires.long) (slots_fit e.start e.base e.levels e.levels_are c.args.index c.requires.there level (slice_index_or c.as_slice.result.now level.part none).slots c.level-level.ensures c.requires.pointer many) }

pub returns : goal.returns
unfolding none
returns c =
    let e = c.args.self.now in
    let level = c.level-level.result in
    let l = pointer_level e.start e.base e.levels e.levels_are c.args.index c.requires.there level c.level-level.ensures c.requires.pointer in
    let many = slots_read e.start e.base e.levels e.levels_are c.args.index c.requires.there c.as_slice.result.now none level.part c.as_slice.ensures l.0 in
    c.range.ensures ∙ slots_are e.start e.base e.levels e.levels_are c.args.index c.requires.there level (slice_index_or c.as_slice.result.now level.part none).slots c.args.words.now c.level-level.ensures c.requires.pointer many
