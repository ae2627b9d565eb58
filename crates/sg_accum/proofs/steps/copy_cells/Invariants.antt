use Rattle.std.proofs.Common.{◌≡◌, length, map, take}
use Rattle.std.specs.Mem.Slots.{slots_items}
use Rattle.sg_accum.specs.AccRace.{cell_of}
use Rattle.sg_accum.proofs.steps.copy_cells.Given as goal

abbrev pub invariant-loop-i : goal.invariant-loop-i
invariant-loop-i l = record {
  long : length l.values ≡ length l.initial.values;
  front : take l.i l.values ≡ take l.i (map (cell_of l.op l.ty) (slots_items l.closed.words));
}
