use Rattle.sg_session.proofs.TasksKept.{compiling_keeps_tasks}
use Rattle.sg_session.proofs.laws.compiling_keeps_tasks.Goals as goal

pub returns : goal.returns
returns c = compiling_keeps_tasks
