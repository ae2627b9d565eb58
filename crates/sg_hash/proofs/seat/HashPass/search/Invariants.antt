use Rattle.std.proofs.Common.{◌≡◌, ◌<◌, length}
use Rattle.sg_words.specs.RaceMachine.{place_in_order}
use Rattle.sg_hash.specs.Seats.{old_links, worker_of, is_full, IsSeatAt}
use Rattle.sg_hash.specs.steps.Searching.{HasLookedPast}
use Rattle.sg_hash.proofs.seat.HashPass.search.Given as goal

abbrev pub invariant-loop-turn : goal.invariant-loop-turn
invariant-loop-turn l = record {
  at_turn : l._turn < length (old_links l.self) → l.at ≡ place_in_order (length (old_links l.self)) l.key l._turn;
  below : l.at < length (old_links l.self);
  own : IsSeatAt l.self l.seat;
  full : is_full l.seat ≡ is_full l.fn.seat;
  passed : HasLookedPast (length (old_links l.self)) l.key l._turn (worker_of l.fn.seat) (worker_of l.seat);
}
