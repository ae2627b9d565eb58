use Rattle.sg_dynamic.proofs.Events.{start_is_event, raise_is_event, split_is_event, join_is_event}
use Rattle.sg_dynamic.proofs.laws.steps_are_events.Goals as goal

pub returns-clause-start : goal.returns-clause-start
returns-clause-start c = start_is_event

pub returns-clause-raise : goal.returns-clause-raise
returns-clause-raise c = raise_is_event

pub returns-clause-split : goal.returns-clause-split
returns-clause-split c = split_is_event

pub returns-clause-join : goal.returns-clause-join
returns-clause-join c = join_is_event
