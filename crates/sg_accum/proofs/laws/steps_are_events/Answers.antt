use Rattle.sg_accum.proofs.Events.{start_is_event, add_is_event, least_is_event, most_is_event, set_bits_is_event, keep_bits_is_event, flip_bits_is_event, split_is_event, join_is_event}
use Rattle.sg_accum.proofs.laws.steps_are_events.Goals as goal

pub returns-clause-start : goal.returns-clause-start
returns-clause-start c = start_is_event

pub returns-clause-add : goal.returns-clause-add
returns-clause-add c = add_is_event

pub returns-clause-least : goal.returns-clause-least
returns-clause-least c = least_is_event

pub returns-clause-most : goal.returns-clause-most
returns-clause-most c = most_is_event

pub returns-clause-set_bits : goal.returns-clause-set_bits
returns-clause-set_bits c = set_bits_is_event

pub returns-clause-keep_bits : goal.returns-clause-keep_bits
returns-clause-keep_bits c = keep_bits_is_event

pub returns-clause-flip_bits : goal.returns-clause-flip_bits
returns-clause-flip_bits c = flip_bits_is_event

pub returns-clause-split : goal.returns-clause-split
returns-clause-split c = split_is_event

pub returns-clause-join : goal.returns-clause-join
returns-clause-join c = join_is_event
