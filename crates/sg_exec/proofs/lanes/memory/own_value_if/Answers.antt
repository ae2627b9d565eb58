use Rattle.sg_exec.proofs.Rows.{zero_isnt_on}
use Rattle.sg_exec.proofs.lanes.memory.own_value_if.Goals as goal

pub returns-then-lane-eq0-clause-value : goal.returns-then-lane-eq0-clause-value
returns-then-lane-eq0-clause-value c = λ on. absurd (zero_isnt_on c.args.lane c.if-lane-eq0.true on)

pub returns-else-lane-eq0-clause-value : goal.returns-else-lane-eq0-clause-value
returns-else-lane-eq0-clause-value c = λ on. c.own_value.ensures.value
