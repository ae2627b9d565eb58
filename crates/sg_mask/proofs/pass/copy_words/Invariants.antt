use Rattle.std.proofs.Common.{◌≡◌, length, take}
use Rattle.std.specs.Mem.Slots.{slots_items}
use Rattle.sg_mask.proofs.pass.copy_words.Given as goal

abbrev pub invariant-loop-i : goal.invariant-loop-i
invariant-loop-i l = record {
  long : length l.words ≡ length l.initial.words;
  front : take l.i l.words ≡ take l.i (slots_items l.closed.words);
}
