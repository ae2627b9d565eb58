use Rattle.std.proofs.Common.{◌≡◌}
use Rattle.sg_words.specs.RaceInvariant.{handed_share}
use Rattle.sg_pointer.specs.Seats.{worker_of, IsSeatOf}
use Rattle.trials_words.proofs.pointer.ask_round.Given as goal

abbrev pub invariant-loop-i : goal.invariant-loop-i
invariant-loop-i l = record {
  own : IsSeatOf l.pass l.seat;
  handed_share : handed_share (worker_of l.seat) ≡ handed_share (worker_of l.initial.seat);
}
