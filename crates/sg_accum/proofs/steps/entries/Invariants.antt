use Rattle.std.proofs.Common.{◌≡◌, ◌≤◌, length, map, take}
use Rattle.std.specs.Vec.{vec_len, vec_capacity}
use Rattle.sg_accum.specs.AccRace.{cell_of, AreEntries}
use Rattle.sg_accum.proofs.steps.entries.Given as goal

abbrev pub invariant-loop-value : goal.invariant-loop-value
invariant-loop-value l = record {
  cells : map (cell_of l.op l.ty) l.words.items ≡ take l.value-index l.values;
  low : AreEntries l.op l.words.items;
  many : vec_len l.words ≡ l.value-index;
  room : length l.values ≤ vec_capacity l.words;
}
