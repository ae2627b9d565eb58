use Rattle.std.proofs.Common.{◌≡◌, length, take}
use Rattle.std.specs.Mem.Slots.{slots_items}
use Rattle.sg_pointer.proofs.finish.copy_words.Given as goal

abbrev pub invariant-loop-i : goal.invariant-loop-i
invariant-loop-i l = record {
  long : length l.links ≡ length l.initial.links;
  front : take l.i l.links ≡ take l.i (slots_items l.closed.words);
}
