use Rattle.sg_exec.specs.steps.Boxes.{IsUpToMost}
use Rattle.sg_exec.proofs.BoxPoints.{if_some_more, within_each}
use Rattle.sg_exec.proofs.workers.points.Points.most.Goals as goal

pub returns-in-Within : goal.returns-in-Within
returns-in-Within c =
    if_some_more _ _ c.most.result (λ most each. within_each (IsUpToMost most) c.self.inside.form c.in-Within.region c.args.self.now c.in-Within.is c.self.view_is each) c.most.ensures
