use Rattle.std.proofs.Common.{take}
use Rattle.sg_elements.specs.steps.Levels.{AddsRows, offsets_of}
use Rattle.sg_elements.proofs.branches.push_rows.Given as goal

abbrev pub ghost-down : goal.ghost-down
ghost-down g a = g.path

abbrev pub invariant-loop-way : goal.invariant-loop-way
invariant-loop-way g l = AddsRows l.store (offsets_of (take l.way-index l.ways)) g.path l.initial.rows.items l.rows.items
