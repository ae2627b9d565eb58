use Rattle.std.proofs.Common.{arith, length, refl, ◌<◌, ◌≤◌, nat_lt}
use Rattle.sg_links.specs.Lists.{list_of}
use Rattle.sg_store.proofs.Turns.{many_there, cut_further, cut_ends}
use Rattle.sg_store.proofs.shorten.shorten.Goals as goal

pub turn-requires-clause-there : goal.turn-requires-clause-there
turn-requires-clause-there c = many_there c.args.chains.now c.loop-place.chains c.args.head _ c.requires.there c.loop-place.invariant.cut

pub loop-place-preserved : goal.loop-place-preserved
loop-place-preserved c =
    let below : c.loop-place.place < length (list_of c.args.chains.now c.args.head) = grind arith in
    record {
      cut = cut_further c.args.chains.now c.loop-place.chains c.turn.new.chains c.args.head c.args.wanted c.loop-place.place (nat_lt c.loop-place.place c.args.wanted) c.requires.there below refl c.loop-place.invariant.cut c.turn.ensures.turned;
      exact = c.turn.ensures.exact;
      fewer = omega (arith, c.loop-place.invariant.fewer, c.turn.ensures.fewer);
    }

pub returns-clause-cut : goal.returns-clause-cut
returns-clause-cut c =
    let end : length (list_of c.args.chains.now c.args.head) ≤ c.loop-place.place = grind arith in
    cut_ends c.args.chains.now c.loop-place.chains c.args.head c.args.wanted c.loop-place.place end c.loop-place.invariant.cut
