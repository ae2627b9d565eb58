use Rattle.std.proofs.Common.{◌≡◌, length, rules, arith}
use Rattle.sg_exec.proofs.HeldWords.{long_kinds}
use Rattle.sg_exec.proofs.lanes.held_rows.HeldRows.reaches.Goals as goal

pub returns-then-number-len-clause-long : goal.returns-then-number-len-clause-long
returns-then-number-len-clause-long c = λ told.
    let long : length c.self.inside.kinds.items ≡ c.len.result = search rules in
    omega (arith, c.if-number-len.true, long, long_kinds c.self.inside.kinds.items c.self.inside.parts.items c.self.inside.slots.items c.args.self.now c.self.view_is)
