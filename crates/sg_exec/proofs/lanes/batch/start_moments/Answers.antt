use Rattle.std.proofs.Common.{arith}
use Rattle.std.proofs.lemmas.Option.{slice_get-get_or}
use Rattle.sg_exec.proofs.Starting.{starting_none, starting_more, starting_all}
use Rattle.sg_exec.proofs.lanes.batch.start_moments.Goals as goal

pub loop-k-init : goal.loop-k-init
loop-k-init c = starting_none c.args.points.now _

pub loop-k-preserved : goal.loop-k-preserved
loop-k-preserved c =
    starting_more c.args.points.now c.loop-k.k c.args.moments.now c.loop-k.moments _ _ c.start.new.self c.loop-k.invariant
    (slice_get-get_or c.args.points.now c.loop-k.k _ (omega arith))
    (slice_get-get_or c.loop-k.moments c.loop-k.k c.index-moments-k.result (omega (arith, c.loop-k.invariant.long, c.requires.room)))
    (record { stores = c.start.ensures.stores; at_is = c.start.ensures.at; writes = c.start.ensures.writes; wants = c.start.ensures.wants })

pub returns : goal.returns
returns c = starting_all c.args.points.now c.loop-k.k c.args.moments.now c.loop-k.moments (omega arith) c.loop-k.invariant
