use Rattle.std.proofs.Common.{◌≡◌, length, take, drop}
use Rattle.std.specs.Mem.Slots.{slots_items}
use Rattle.sg_hash.proofs.finish.copy_words.Given as goal

abbrev pub invariant-loop-i : goal.invariant-loop-i
invariant-loop-i l = record {
  long : length l.words ≡ length l.initial.words;
  front : take l.i l.words ≡ take l.i (drop l.from (slots_items l.closed.words));
}
