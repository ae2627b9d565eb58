use Rattle.sg_elements.proofs.Rows.{then_count}
use Rattle.sg_elements.proofs.listing.active_count.Goals as goal

pub returns : goal.returns
returns c = then_count c.args.store.now c.reached_count.result c.reached_count.ensures c.walk_counts.ensures.counts
