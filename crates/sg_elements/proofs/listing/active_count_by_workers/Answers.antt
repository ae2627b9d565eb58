use Rattle.sg_elements.proofs.Rows.{then_count}
use Rattle.sg_elements.proofs.listing.active_count_by_workers.Goals as goal

pub returns : goal.returns
returns g c = then_count c.args.store.now c.reached_count_by.result c.reached_count_by.ensures c.walk_counts.ensures.counts
