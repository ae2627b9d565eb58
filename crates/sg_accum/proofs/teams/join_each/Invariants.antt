use Rattle.std.proofs.Common.{◌≡◌, ◌≤◌, ◌++◌, length, take, drop}
use Rattle.sg_accum.specs.Parts.{part_tables, seat_tables, seat_workers}
use Rattle.sg_accum.specs.steps.Teams.{joined_each}
use Rattle.sg_accum.proofs.teams.join_each.Given as goal

abbrev pub invariant-loop-other : goal.invariant-loop-other
invariant-loop-other l = record {
  own : seat_tables l.seats.items ≡ part_tables l.parts;
  left : l.others.items ≡ take (length l.others.items) l.initial.others.items;
  few : length l.others.items ≤ length l.initial.others.items;
  both : seat_workers l.seats.items ≡ take (length l.others.items) (seat_workers l.initial.seats.items)
      ++ drop (length l.others.items) (joined_each (seat_workers l.initial.seats.items) (seat_workers l.initial.others.items));
}

abbrev pub decreases-loop-other : goal.decreases-loop-other
decreases-loop-other l = length l.others.items
