use Rattle.std.proofs.Common.{◌≡◌, length, take}
use Rattle.std.specs.Mem.Slots.{slots_items}
use Rattle.sg_words.specs.Ranges.{range_at}
use Rattle.sg_activate.proofs.descent.ended.copy_words.Given as goal

abbrev pub invariant-loop-i : goal.invariant-loop-i
invariant-loop-i l = record {
  long : length l.words ≡ length l.initial.words;
  front : take l.i l.words ≡ range_at l.first l.i (slots_items l.closed.words);
}
