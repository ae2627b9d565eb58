use Rattle.std.proofs.Common.{◌<◌, length, refl, arith}
use Rattle.sg_store.proofs.LikeRows.{like_none, like_more, like_ends}
use Rattle.sg_store.proofs.word_row.WordRow.become_like.Goals as goal

pub loop-slot-init : goal.loop-slot-init
loop-slot-init c = like_none c.standing-word-items.result.now c.clear.new.self (length c.args.self.now) c.clear.ensures

pub set-requires : goal.set-requires
set-requires c = omega (arith, c.loop-slot-test.true, c.standing-word-items.ensures.few, c.requires, c.loop-slot.invariant.as_many)

pub loop-slot-preserved : goal.loop-slot-preserved
loop-slot-preserved c =
    let there : c.loop-slot.slot < length c.args.self.now = omega (arith, c.loop-slot-test.true, c.standing-word-items.ensures.few, c.requires) in
    like_more c.standing-word-items.result.now c.loop-slot.self c.set.new.self (length c.args.self.now) c.loop-slot.slot _ there refl c.set.ensures c.loop-slot.invariant

pub returns : goal.returns
returns c =
    like_ends c.standing-word-items.result.now c.loop-slot.self c.args.other.now (length c.args.self.now) c.loop-slot.slot
    (omega (arith, c.loop-slot-test.false)) c.requires c.standing-word-items.ensures.words c.loop-slot.invariant
