use Rattle.sg_words.proofs.RacePools.{few_workers, count_is_small, ticket_stands_once, key_stands_once, new_links_differ, spares_never_fill}
use Rattle.sg_words.proofs.laws.races_hand_out_once.Goals as goal

pub returns-clause-workers : goal.returns-clause-workers
returns-clause-workers c = few_workers

pub returns-clause-count : goal.returns-clause-count
returns-clause-count c = count_is_small

pub returns-clause-ticket : goal.returns-clause-ticket
returns-clause-ticket c = ticket_stands_once

pub returns-clause-key : goal.returns-clause-key
returns-clause-key c = key_stands_once

pub returns-clause-links : goal.returns-clause-links
returns-clause-links c = new_links_differ

pub returns-clause-pool : goal.returns-clause-pool
returns-clause-pool c = spares_never_fill
