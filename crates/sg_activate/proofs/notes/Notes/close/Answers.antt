use Rattle.sg_activate.proofs.Looking.{closed_empty, closed, closed_workers}
use Rattle.sg_activate.proofs.notes.Notes.close.Goals as goal

pub returns-then-is_empty-clause-same : goal.returns-then-is_empty-clause-same
returns-then-is_empty-clause-same c = closed_empty c.args.self (c.is_empty.ensures.0 c.if-is_empty.true)

pub returns-clause-same : goal.returns-clause-same
returns-clause-same c = closed c.args.self c.push.new.self c.in_ok-push.ensures.ok

pub returns-clause-of_workers : goal.returns-clause-of_workers
returns-clause-of_workers c = closed_workers c.args.self c.push.new.self c.in_ok-push.ensures.ok
