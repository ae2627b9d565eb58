use Rattle.sg_exec.proofs.HeldWords.{rows_none}
use Rattle.sg_exec.proofs.lanes.held_rows.HeldRows.start.Goals as goal

pub returns : goal.returns
returns c = record { none = rows_none c.reset.new.items.items c.self.inside.parts.items c.self.inside.slots.items c.reset.ensures.none }
