use Rattle.std.proofs.Common.{take}
use Rattle.sg_elements.specs.steps.Levels.{AddsBranches, offsets_of}
use Rattle.sg_elements.proofs.branches.push_below.Given as goal

abbrev pub ghost-down : goal.ghost-down
ghost-down g a = g.path

abbrev pub invariant-loop-way : goal.invariant-loop-way
invariant-loop-way g l = AddsBranches l.store l.node (offsets_of (take l.way-index l.ways)) g.path l.initial.next.items l.next.items
