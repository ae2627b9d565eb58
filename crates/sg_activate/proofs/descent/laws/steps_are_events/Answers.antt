use Rattle.sg_activate.proofs.DescentEvents.{start_is_event, look_is_event, draw_is_event, try_is_event, mark_is_event, split_is_event, join_is_event}
use Rattle.sg_activate.proofs.descent.laws.steps_are_events.Goals as goal

pub returns-clause-start : goal.returns-clause-start
returns-clause-start c = start_is_event

pub returns-clause-look : goal.returns-clause-look
returns-clause-look c = look_is_event

pub returns-clause-draw : goal.returns-clause-draw
returns-clause-draw c = draw_is_event

pub returns-clause-exchange : goal.returns-clause-exchange
returns-clause-exchange c = try_is_event

pub returns-clause-mark : goal.returns-clause-mark
returns-clause-mark c = mark_is_event

pub returns-clause-split : goal.returns-clause-split
returns-clause-split c = split_is_event

pub returns-clause-join : goal.returns-clause-join
returns-clause-join c = join_is_event
