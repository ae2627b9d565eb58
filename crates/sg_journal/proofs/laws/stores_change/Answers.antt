use Rattle.sg_journal.proofs.Changing.{stores_begin, stores_change}
use Rattle.sg_journal.proofs.laws.stores_change.Goals as goal

pub returns-clause-begin : goal.returns-clause-begin
returns-clause-begin c = stores_begin c.links_are_sound.ensures c.live_is_need.ensures

pub returns-clause-change : goal.returns-clause-change
returns-clause-change c = stores_change c.links_are_sound.ensures c.live_is_need.ensures
