use Rattle.std.proofs.Common.{sym, subst, List, ℕ, take}
use Rattle.sg_coord.specs.Bounds.{bounds_of, volume}
use Rattle.sg_flat.specs.Effects.{writes_of}
use Rattle.sg_flat.specs.steps.Landing.{AreWordsBelow}
use Rattle.sg_flat.proofs.Landings.{field_after-are_words, field_after-more_turns, field_after-all_turns, stay_inside-turn}
use Rattle.sg_flat.proofs.landing.Target.after_turns.Goals as goal

pub land_all-requires-clause-words : goal.land_all-requires-clause-words
land_all-requires-clause-words c =
    let target = c.args.self.now in
    subst (λ (ws : List (ℕ × ℕ)). AreWordsBelow (volume (bounds_of target.extents)) ws) (sym c.loop-turn.invariant)
    (field_after-are_words (bounds_of target.extents) target.layout target.place target.ty c.args.field.now (writes_of (take c.loop-turn.turn-index c.as_slice-turns.result.now)))

pub land_all-requires-clause-inside : goal.land_all-requires-clause-inside
land_all-requires-clause-inside c =
    let target = c.args.self.now in
    stay_inside-turn (bounds_of target.extents) target.layout c.as_slice-turns.result.now c.args.effects.now.turns c.loop-turn.turn-index c.turn-item.result
    c.as_slice-turns.ensures c.loop-turn-test.true c.turn-item.is c.requires.inside

pub loop-turn-preserved : goal.loop-turn-preserved
loop-turn-preserved c =
    let target = c.args.self.now in
    field_after-more_turns (bounds_of target.extents) target.layout target.place target.ty c.args.field.now c.loop-turn.next c.land_all.new.field c.as_slice-turns.result.now c.loop-turn.turn-index c.turn-item.result
    c.loop-turn-test.true c.turn-item.is c.loop-turn.invariant c.in_ok-land_all.ensures

pub returns-clause-meaning : goal.returns-clause-meaning
returns-clause-meaning c =
    let target = c.args.self.now in
    field_after-all_turns (bounds_of target.extents) target.layout target.place target.ty c.args.field.now c.loop-turn.next c.as_slice-turns.result.now c.args.effects.now.turns c.loop-turn.turn-index
    c.as_slice-turns.ensures c.loop-turn-test.false c.loop-turn.invariant
