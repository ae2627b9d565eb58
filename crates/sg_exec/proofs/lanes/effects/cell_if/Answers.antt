use Rattle.sg_exec.proofs.Rows.{zero_isnt_on}
use Rattle.sg_exec.proofs.lanes.effects.cell_if.Goals as goal

pub returns-then-lane-eq0-clause-cell : goal.returns-then-lane-eq0-clause-cell
returns-then-lane-eq0-clause-cell c = λ on. absurd (zero_isnt_on c.args.lane c.if-lane-eq0.true on)

pub returns-else-lane-eq0-clause-cell : goal.returns-else-lane-eq0-clause-cell
returns-else-lane-eq0-clause-cell c = λ on. c.cell.ensures.cell
