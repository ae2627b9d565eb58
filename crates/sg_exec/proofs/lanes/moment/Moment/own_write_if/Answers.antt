use Rattle.std.proofs.Common.{refl}
use Rattle.sg_exec.proofs.Rows.{zero_isnt_on, other_is_on}
use Rattle.sg_exec.proofs.lanes.moment.Moment.own_write_if.Goals as goal

pub returns-then-lane-eq0-clause-made : goal.returns-then-lane-eq0-clause-made
returns-then-lane-eq0-clause-made c = λ told. record { set = λ on. absurd (zero_isnt_on c.args.lane c.if-lane-eq0.true on); zero = λ off. refl }

pub returns-else-lane-eq0-clause-made : goal.returns-else-lane-eq0-clause-made
returns-else-lane-eq0-clause-made c = λ told. record { set = λ on. c.own_write.ensures.made told; zero = λ off. absurd (other_is_on c.args.lane c.if-lane-eq0.false off) }
