use Rattle.std.proofs.Common.{◌≡◌, sym, ◌∙◌}
use Rattle.sg_exec.proofs.lanes.near.near_in.Goals as goal

pub returns-in-Some : goal.returns-in-Some
returns-in-Some c = record { is = sym c.requires.cell ∙ c.in-Some.is; follow = c.cells_after-left.ensures.follow; reached = c.cells_after-left.ensures.reached }
