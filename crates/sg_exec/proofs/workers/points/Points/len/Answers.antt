use Rattle.sg_exec.proofs.BoxPoints.{within_long}
use Rattle.sg_exec.proofs.workers.points.Points.len.Goals as goal

pub returns-in-Within : goal.returns-in-Within
returns-in-Within c = within_long c.self.inside.form c.in-Within.region c.args.self.now c.in-Within.is c.self.view_is
