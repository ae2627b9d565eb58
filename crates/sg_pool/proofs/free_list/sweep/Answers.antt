use Rattle.std.proofs.Common.{arith, length, ◌<◌, ◌≤◌}
use Rattle.sg_links.specs.Lists.{list_of}
use Rattle.sg_pool.proofs.FreeLists.{many_there, sweep_further, sweep_ends}
use Rattle.sg_pool.proofs.free_list.sweep.Goals as goal

pub turn-requires : goal.turn-requires
turn-requires c = many_there c.args.free.now c.loop-place.free _ c.requires c.loop-place.invariant

pub loop-place-preserved : goal.loop-place-preserved
loop-place-preserved c =
    let below : c.loop-place._place < length (list_of c.args.free.now 0) = grind arith in
    sweep_further c.args.live.now c.args.free.now c.loop-place.free c.turn.new.free c.loop-place._place c.requires below c.loop-place.invariant c.turn.ensures

pub returns : goal.returns
returns c =
    let end : length (list_of c.args.free.now 0) ≤ c.loop-place._place = grind arith in
    sweep_ends c.args.live.now c.args.free.now c.loop-place.free c.loop-place._place end c.loop-place.invariant
