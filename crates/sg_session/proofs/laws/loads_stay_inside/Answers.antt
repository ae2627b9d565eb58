use Rattle.sg_session.proofs.Loads.{loads_stay_inside}
use Rattle.sg_session.proofs.laws.loads_stay_inside.Goals as goal

pub returns : goal.returns
returns c = loads_stay_inside c.runs_are_rows.ensures.read
