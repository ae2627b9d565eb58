use Rattle.sg_words.proofs.RaceRuns.{starts_kept, event_keeps, run_keeps}
use Rattle.sg_words.proofs.laws.races_keep_their_invariant.Goals as goal

pub returns-clause-start : goal.returns-clause-start
returns-clause-start c = starts_kept

pub returns-clause-event : goal.returns-clause-event
returns-clause-event c = event_keeps

pub returns-clause-run : goal.returns-clause-run
returns-clause-run c = run_keeps
