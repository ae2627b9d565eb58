use Rattle.std.proofs.Common.{◌∙◌, sym, subst, ◌+◌, ◌/◌, ◌≤◌}
use Rattle.std.specs.Prelude.{slice_index_or}
use Rattle.sg_activate.specs.declared.descent.rule.MaskPart.{MaskPart}
use Rattle.sg_activate.proofs.DescentParted.{masked_level, words_read, bits_fit, bits_are}
use Rattle.sg_activate.proofs.descent.ended.Ended.bits.Goals as goal

none : MaskPart
none = record { words = 0; over = 0; width = 0 }

pub range-requires : goal.range-requires
unfolding none
range-requires c =
    let e = c.args.self.now in
    let level = c.level-level.result in
    let l = masked_level e.start e.base e.levels e.levels_are c.args.index c.requires.there level c.level-level.ensures c.requires.masked in
    let many = words_read e.start e.base e.levels e.levels_are c.args.index c.requires.there c.as_slice.result.now none level.part c.as_slice.ensures l.0 in
    record { fits = subst (λ n. level.first / 64 + (slice_index_or c.as_slice.result.now level.part none).words ≤ n) (sym c.requires.long) (bits_fit e.start e.base e.levels e.levels_are c.args.index c.requires.there level (slice_index_or c.as_slice.result.now level.part none).words c.level-level.ensures c.requires.masked many) }

pub returns : goal.returns
unfolding none
returns c =
    let e = c.args.self.now in
    let level = c.level-level.result in
    let l = masked_level e.start e.base e.levels e.levels_are c.args.index c.requires.there level c.level-level.ensures c.requires.masked in
    let many = words_read e.start e.base e.levels e.levels_are c.args.index c.requires.there c.as_slice.result.now none level.part c.as_slice.ensures l.0 in
    c.range.ensures ∙ bits_are e.start e.base e.levels e.levels_are c.args.index c.requires.there level (slice_index_or c.as_slice.result.now level.part none).words c.args.words.now c.level-level.ensures c.requires.masked many
