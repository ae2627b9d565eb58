use Rattle.std.proofs.Common.{sym, ap, arith}
use Rattle.sg_links.specs.Lists.{Lists}
use Rattle.sg_pool.proofs.FreeLists.{popped_at_front}
use Rattle.sg_pool.proofs.free_list.turn.Goals as goal

pub push_back-requires-clause-below : goal.push_back-requires-clause-below
push_back-requires-clause-below c =
    let below = (popped_at_front c.args.free.now c.in-Some.number c.numbers-numbers.ensures.disjoint c.requires (sym c.in-Some.ensures.value)).1 in
    omega (arith, below, ap (λ (l : Lists). l.numbers) c.pop_front.ensures.left)
