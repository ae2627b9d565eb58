use Rattle.sg_admit.proofs.Silent.{ranges_silent}
use Rattle.sg_admit.proofs.asks.domain_asks_nothing.Goals as goal

pub returns-in-Ranges : goal.returns-in-Ranges
returns-in-Ranges c =
    ranges_silent c.args.domain.now c.in-Ranges.ranges c.as_slice.result.now c.in-Ranges.is c.as_slice.ensures c.are_good_ranges.result c.are_good_ranges.ensures
