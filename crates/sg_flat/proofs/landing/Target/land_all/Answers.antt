use Rattle.std.proofs.Common.{sym, subst, List, ℕ, take}
use Rattle.sg_coord.specs.Bounds.{bounds_of, volume}
use Rattle.sg_flat.specs.steps.Landing.{AreWordsBelow}
use Rattle.sg_flat.proofs.Landings.{field_after-are_words, field_after-more, field_after-all}
use Rattle.sg_flat.proofs.landing.Target.land_all.Goals as goal

pub land-requires-clause-words : goal.land-requires-clause-words
land-requires-clause-words c =
    let target = c.args.self.now in
    subst (λ (ws : List (ℕ × ℕ)). AreWordsBelow (volume (bounds_of target.extents)) ws) (sym c.loop-write.invariant)
    (field_after-are_words (bounds_of target.extents) target.layout target.place target.ty c.args.field.now (take c.loop-write.write-index c.as_slice-write-items.result.now))

pub loop-write-preserved : goal.loop-write-preserved
loop-write-preserved c =
    let target = c.args.self.now in
    field_after-more (bounds_of target.extents) target.layout target.place target.ty c.args.field.now c.loop-write.field c.land.new.field c.as_slice-write-items.result.now c.loop-write.write-index _
    c.loop-write-test.true c.loop-write.invariant c.in_ok-land.ensures

pub returns : goal.returns
returns c =
    let target = c.args.self.now in
    field_after-all (bounds_of target.extents) target.layout target.place target.ty c.args.field.now c.loop-write.field c.as_slice-write-items.result.now c.args.turn.now.writes c.loop-write.write-index
    c.as_slice-write-items.ensures c.loop-write-test.false c.loop-write.invariant
