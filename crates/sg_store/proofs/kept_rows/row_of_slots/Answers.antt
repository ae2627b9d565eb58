use Rattle.std.proofs.Common.{◌≤◌, ◌*◌, ◌<◌, arith}
use Rattle.std.proofs.lemmas.Nat.{div_below}
use Rattle.sg_store.specs.steps.KeptWords.{in_row}
use Rattle.sg_store.proofs.RowTests.{row_is_above}
use Rattle.sg_store.proofs.kept_rows.row_of_slots.Goals as goal

pub mark_above-requires-clause-there : goal.mark_above-requires-clause-there
mark_above-requires-clause-there c =
    let below : c.loop-slot.slot < c.args.places * c.args.size = grind arith in
    omega (arith, div_below c.loop-slot.slot c.args.size c.args.places c.requires.some below, c.loop-slot.invariant.long)

pub returns-clause-above : goal.returns-clause-above
returns-clause-above c = λ place.
    let end : c.args.places * c.args.size ≤ c.loop-slot.slot = grind arith in
    row_is_above (in_row c.args.row.now) c.args.node.now c.args.kept.now c.loop-slot.above c.args.places c.loop-slot.slot c.args.size c.requires.sized c.requires.some end c.requires.within c.loop-slot.invariant place
