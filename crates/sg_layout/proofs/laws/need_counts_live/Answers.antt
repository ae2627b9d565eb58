use Rattle.sg_layout.proofs.Reached as laws
use Rattle.sg_layout.proofs.laws.need_counts_live.Goals as goal

pub returns-clause-live : goal.returns-clause-live
returns-clause-live c = laws.reached_are_live

pub returns-clause-once : goal.returns-clause-once
returns-clause-once c = laws.reached_once

pub returns-clause-parents : goal.returns-clause-parents
returns-clause-parents c = laws.parents_have_live

pub returns-clause-greatest : goal.returns-clause-greatest
returns-clause-greatest c = laws.live_up_to_greatest
