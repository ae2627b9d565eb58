use Rattle.std.proofs.Common.{ℕ, subst, arith}
use Rattle.sg_coord.specs.Slices.{IsPartition}
use Rattle.sg_exec.specs.steps.Landing.{current}
use Rattle.sg_exec.proofs.RacedHand.{all_shares, if_raced}
use Rattle.sg_exec.proofs.results.sums.raced.Goals as goal

pub race-requires-clause-passes : goal.race-requires-clause-passes
race-requires-clause-passes g c κs within = c.requires.fields.passes

pub race-requires-clause-seats : goal.race-requires-clause-seats
race-requires-clause-seats g c κs within = c.requires.fields.are_seats

pub race-requires-clause-shares : goal.race-requires-clause-shares
race-requires-clause-shares g c κs within =
    all_shares (current c.args.reached.now c.args.stores.now.list) c.args.code.now c.args.accumulated.now c.args.seats.items c.args.owned.now 16 c.requires.fields (omega arith)

pub returns : goal.returns
returns g c =
    let stores = current c.args.reached.now c.args.stores.now.list in
    if_raced stores c.args.code.now c.args.points.now c.args.accumulated.now c.args.owned.now c.args.workers (record { seats = c.args.seats; puts = c.new-puts.result }) c.requires.fields c.new-puts.ensures
    (subst (λ (n : ℕ). IsPartition n c.args.workers) c.len.ensures c.slices_partition.ensures.here) c.race.result c.race.ensures.seats c.race.ensures.cells c.race.ensures.ran
