use Rattle.std.proofs.Common.{sym, subst}
use Rattle.sg_links.specs.Lists.{Lists}
use Rattle.sg_dynamic.specs.Chunks.{IsExact}
use Rattle.sg_dynamic.proofs.Growth.{free_below, exact_after, grew_more, not_full, heads_stay}
use Rattle.sg_dynamic.proofs.chunks.lengthen.Goals as goal

pub push_back-requires-clause-there : goal.push_back-requires-clause-there
push_back-requires-clause-there c = heads_stay c.args.chains.now c.loop-long.chains c.args.head c.loop-long._long c.loop-long.invariant.grew c.requires.there

pub push_back-requires-clause-below : goal.push_back-requires-clause-below
push_back-requires-clause-below c = (free_below c.loop-long.chains c.loop-long.pool c.in-Some.number c.loop-long.invariant.exact c.in-Some.ensures.drawn.0).0

pub push_back-requires-clause-free : goal.push_back-requires-clause-free
push_back-requires-clause-free c = (free_below c.loop-long.chains c.loop-long.pool c.in-Some.number c.loop-long.invariant.exact c.in-Some.ensures.drawn.0).1

pub unreachable-requires : goal.unreachable-requires
unreachable-requires c = not_full c.args.chains.now c.loop-long.chains c.loop-long.pool c.args.head c.loop-long._long c.args.wanted c.loop-long.invariant.grew c.requires.there c.loop-long-test.true c.requires.room c.loop-long.invariant.exact c.in-None.ensures.drawn.0

pub loop-long-preserved : goal.loop-long-preserved
loop-long-preserved c = record {
  grew = grew_more c.args.chains.now c.loop-long.chains c.push_back.new.self c.args.head c.loop-long._long c.in-Some.number c.loop-long.invariant.grew c.requires.there c.push_back.ensures;
  exact = subst (λ (l : Lists). IsExact l c.draw.new.self) (sym c.push_back.ensures)
      (exact_after c.loop-long.chains c.loop-long.pool c.draw.new.self c.args.head c.in-Some.number c.loop-long.invariant.exact (heads_stay c.args.chains.now c.loop-long.chains c.args.head c.loop-long._long c.loop-long.invariant.grew c.requires.there) c.in-Some.ensures.drawn.0 c.in-Some.ensures.drawn.1);
}
