use Rattle.std.proofs.Common.{arith, sym, ap, ◌∙◌, subst, ◌<◌, ◌≤◌, List, ℕ, length}
use Rattle.sg_links.specs.Lists.{Lists}
use Rattle.sg_dynamic.specs.Chunks.{chunks_of, chunk_need, lengths_from, AreFitted}
use Rattle.sg_dynamic.proofs.Growth.{room_for_one, room_so_far, fit_more, front_few, front_below, front_at, fit_front_end}
use Rattle.sg_dynamic.proofs.chunks.fit_front.Goals as goal

pub front_needs-need-requires-clause-within : goal.front_needs-need-requires-clause-within
front_needs-need-requires-clause-within c = front_few c.args.chains.now c.args.front.now c.args.chunk c.requires.room

pub lengthen-requires-clause-there : goal.lengthen-requires-clause-there
lengthen-requires-clause-there c = omega (arith, front_few c.args.chains.now c.args.front.now c.args.chunk c.requires.room, c.loop-head.invariant.many, c.loop-head-test.true)

pub lengthen-requires-clause-shorter : goal.lengthen-requires-clause-shorter
lengthen-requires-clause-shorter c =
    let old = c.args.chains.now in
    let front = c.args.front.now in
    let lengths : List ℕ = lengths_from front (length old.lists) in
    let room = room_so_far old c.loop-head.chains c.loop-head.pool lengths c.args.chunk c.loop-head.head c.requires.room c.loop-head.invariant in
    let there = front_below old front c.args.chunk c.loop-head.head c.requires.room c.loop-head-test.true in
    let same = ap (chunks_of c.args.chunk) (front_at front (length old.lists) c.loop-head.head c.loop-head-test.true) in
    omega (arith, room.within c.loop-head.head there, same, c.chunks.ensures.chunks)

pub lengthen-requires-clause-room : goal.lengthen-requires-clause-room
lengthen-requires-clause-room c =
    let old = c.args.chains.now in
    let front = c.args.front.now in
    let lengths : List ℕ = lengths_from front (length old.lists) in
    let room = room_so_far old c.loop-head.chains c.loop-head.pool lengths c.args.chunk c.loop-head.head c.requires.room c.loop-head.invariant in
    let enough : chunk_need c.args.chunk lengths ≤ c.loop-head.chains.numbers = omega arith in
    let there = front_below old front c.args.chunk c.loop-head.head c.requires.room c.loop-head-test.true in
    let same = ap (chunks_of c.args.chunk) (front_at front (length old.lists) c.loop-head.head c.loop-head-test.true) in
    let one = room_for_one c.args.chunk c.loop-head.chains lengths c.loop-head.head room there enough in
    omega (arith, one, same, c.chunks.ensures.chunks)

pub loop-head-preserved : goal.loop-head-preserved
loop-head-preserved c =
    let old = c.args.chains.now in
    let front = c.args.front.now in
    let lengths : List ℕ = lengths_from front (length old.lists) in
    let there : c.loop-head.head < length old.lists = omega (arith, front_few old front c.args.chunk c.requires.room, c.loop-head-test.true) in
    let same = ap (chunks_of c.args.chunk) (front_at front (length old.lists) c.loop-head.head c.loop-head-test.true) in
    fit_more old c.loop-head.chains c.lengthen.new.chains c.loop-head.pool c.lengthen.new.pool lengths c.args.chunk c.loop-head.head c.chunks.result
    c.loop-head.invariant there c.lengthen.ensures.grew (c.chunks.ensures.chunks ∙ sym same) c.lengthen.ensures.exact

pub returns-clause-fitted : goal.returns-clause-fitted
returns-clause-fitted c =
    let old = c.args.chains.now in
    let front = c.args.front.now in
    subst (λ (now : Lists). AreFitted old now (lengths_from front (length old.lists)) c.args.chunk) (sym c.arrange.ensures)
    (fit_front_end old c.loop-head.chains c.loop-head.pool front c.args.chunk c.loop-head.head c.requires.some c.requires.room c.loop-head.invariant (omega (arith, c.loop-head-test.false)))
