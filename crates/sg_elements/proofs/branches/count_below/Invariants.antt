use Rattle.std.proofs.Common.{◌≡◌, ◌≤◌, length, take}
use Rattle.sg_elements.specs.steps.Levels.{led_over, offsets_of}
use Rattle.sg_elements.proofs.branches.count_below.Given as goal

abbrev pub ghost-down : goal.ghost-down
ghost-down g a = g.path

abbrev pub invariant-loop-way : goal.invariant-loop-way
invariant-loop-way g l = record {
  counted : l.count ≡ length (led_over l.store g.path (offsets_of (take l.way-index l.ways)));
  few : l.count ≤ l.way-index;
}
