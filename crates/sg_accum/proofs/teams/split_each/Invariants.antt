use Rattle.std.proofs.Common.{◌≡◌, ◌≤◌, ◌++◌, length, map, take, drop}
use Rattle.std.specs.Vec.{vec_len, vec_capacity}
use Rattle.sg_words.specs.RaceMachine.{after_split, other_half}
use Rattle.sg_accum.specs.Parts.{part_tables, seat_tables, seat_workers}
use Rattle.sg_accum.proofs.teams.split_each.Given as goal

abbrev pub invariant-loop-place : goal.invariant-loop-place
invariant-loop-place l = record {
  own : seat_tables l.seats.items ≡ part_tables l.parts;
  left : seat_workers l.seats.items ≡ take l.place (map after_split (seat_workers l.initial.seats.items)) ++ drop l.place (seat_workers l.initial.seats.items);
  other : seat_tables l.others.items ≡ take l.place (part_tables l.parts);
  right : seat_workers l.others.items ≡ take l.place (map other_half (seat_workers l.initial.seats.items));
  many : vec_len l.others ≡ l.place;
  room : length l.parts ≤ vec_capacity l.others;
}
