use Rattle.std.proofs.Common.{◌≡◌, ◌-◌, ◌≤◌, length}
use Rattle.std.specs.Prelude.{drop}
use Rattle.sg_snapshot.specs.Parts.{cut_lists}
use Rattle.sg_snapshot.proofs.Fronts.{lists_left}
use Rattle.sg_snapshot.proofs.reading.lists_of.Given as goal

abbrev pub invariant-loop-field : goal.invariant-loop-field
invariant-loop-field l = record {
  whole : lists_left l.lists (cut_lists (l.fields - l._field) l.count l.rest) ≡ cut_lists l.fields l.count l.numbers;
  rest : l.rest ≡ drop (length l.numbers - length l.rest) l.numbers;
  few : length l.rest ≤ length l.numbers;
}
