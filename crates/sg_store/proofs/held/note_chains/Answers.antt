use Rattle.std.proofs.Common.{◌+◌, ◌*◌, ◌≤◌, length, arith}
use Rattle.std.proofs.lemmas.Nat.{mul-le}
use Rattle.sg_store.proofs.Noted.{chains_more, chains_end}
use Rattle.sg_store.proofs.held.note_chains.Goals as goal

pub overflow_mul-first : goal.overflow_mul-first
overflow_mul-first c =
    let below : c.loop-head.head + 1 ≤ length c.args.chains.now.lists = omega (arith, c.loop-head-test.true, c.used-head-end.ensures.few) in
    let most : (c.loop-head.head + 1) * c.args.full ≤ length c.args.chains.now.lists * c.args.full = mul-le (c.loop-head.head + 1) c.args.full (length c.args.chains.now.lists) c.args.full below (omega arith) in
    omega (arith, most, c.requires.room)

pub note_chain-requires-clause-room : goal.note_chain-requires-clause-room
note_chain-requires-clause-room c =
    let below : c.loop-head.head + 1 ≤ length c.args.chains.now.lists = omega (arith, c.loop-head-test.true, c.used-head-end.ensures.few) in
    let most : (c.loop-head.head + 1) * c.args.full ≤ length c.args.chains.now.lists * c.args.full = mul-le (c.loop-head.head + 1) c.args.full (length c.args.chains.now.lists) c.args.full below (omega arith) in
    omega (arith, most, c.requires.short c.loop-head.head, c.requires.room)

pub loop-head-preserved : goal.loop-head-preserved
loop-head-preserved c =
    chains_more c.args.chains.now c.args.full c.loop-head.head c.args.slots.now c.loop-head.slots c.note_chain.new.slots c.note_chain.ensures.disjoint c.loop-head.invariant c.note_chain.ensures.noted

pub returns : goal.returns
returns c =
    chains_end c.args.chains.now c.args.full c.loop-head.head (length c.args.chains.now.lists) c.args.slots.now c.loop-head.slots
    (λ head past. c.used-head-end.ensures.rest head (omega (arith, past, c.loop-head-test.false))) c.loop-head.invariant
