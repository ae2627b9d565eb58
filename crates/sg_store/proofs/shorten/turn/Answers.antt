use Rattle.std.proofs.Common.{sym, ap, arith}
use Rattle.sg_links.specs.Lists.{Lists}
use Rattle.sg_store.proofs.Turns.{front_is_live, front_below, turned_back, exact_back}
use Rattle.sg_store.proofs.shorten.turn.Goals as goal

pub push_back-requires-clause-below : goal.push_back-requires-clause-below
push_back-requires-clause-below c =
    let below = front_below c.args.chains.now c.args.head c.in-Some.number c.numbers-numbers.ensures.disjoint c.requires.there (sym c.in-Some.ensures.value) in
    omega (arith, below, ap (λ (l : Lists). l.numbers) c.pop_front.ensures.left)

pub give_back-requires : goal.give_back-requires
give_back-requires c = front_is_live c.args.chains.now c.args.pool.now c.args.head c.in-Some.number c.requires.there c.requires.exact (sym c.in-Some.ensures.value)

pub returns-then-keep-clause-turned : goal.returns-then-keep-clause-turned
returns-then-keep-clause-turned c = turned_back c.args.chains.now c.pop_front.new.self c.push_back.new.self c.args.head c.in-Some.number c.args.keep c.if-keep.true c.requires.there (sym c.in-Some.ensures.value) c.pop_front.ensures.left c.push_back.ensures

pub returns-then-keep-clause-exact : goal.returns-then-keep-clause-exact
returns-then-keep-clause-exact c = exact_back c.args.chains.now c.pop_front.new.self c.push_back.new.self c.args.pool.now c.args.head c.in-Some.number c.requires.there c.requires.exact (sym c.in-Some.ensures.value) c.pop_front.ensures.left c.push_back.ensures
