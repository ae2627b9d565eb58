use Rattle.std.proofs.Common.{arith, ap, ◌≤◌}
use Rattle.sg_links.specs.Lists.{Lists}
use Rattle.sg_pool.proofs.FreeLists.{many_there, put_further, put_absent}
use Rattle.sg_pool.proofs.free_list.put_spares.Goals as goal

pub put_spare-requires-clause-there : goal.put_spare-requires-clause-there
put_spare-requires-clause-there c = many_there c.args.free.now c.loop-number.free _ c.requires.there c.loop-number.invariant

pub put_spare-requires-clause-below : goal.put_spare-requires-clause-below
put_spare-requires-clause-below c =
    let same = ap (λ (l : Lists). l.numbers) c.loop-number.invariant in
    omega (arith, same, c.requires.within)

pub put_spare-requires-clause-absent : goal.put_spare-requires-clause-absent
put_spare-requires-clause-absent c =
    let above : c.args.from ≤ c.loop-number.number = grind arith in
    put_absent c.args.live.now c.args.free.now c.loop-number.free c.args.from c.loop-number.number c.requires.there above c.loop-number.invariant (c.requires.absent c.loop-number.number above)

pub loop-number-preserved : goal.loop-number-preserved
loop-number-preserved c =
    let above : c.args.from ≤ c.loop-number.number = grind arith in
    put_further c.args.live.now c.args.free.now c.loop-number.free c.put_spare.new.free c.args.from c.loop-number.number c.requires.there above c.loop-number.invariant c.put_spare.ensures
