use Rattle.sg_activate.specs.Descending.{KnowsMore}
use Rattle.sg_activate.specs.Descents.{worker_of, IsSeatAt}
use Rattle.sg_activate.specs.steps.DescentReaching.{offsets_below, place_from, IsOpenAbove, StandsAt, GrewBy}
use Rattle.sg_activate.proofs.descent.seat.DescentPass.walk.Given as goal

abbrev pub invariant-loop-index : goal.invariant-loop-index
invariant-loop-index l = record {
  own : IsSeatAt l.self l.seat;
  more : KnowsMore (worker_of l.fn.seat) (worker_of l.seat);
  stands : StandsAt l.self.start (worker_of l.seat) l.self.levels (place_from l.self.start l.self.base l.at) (offsets_below l.self.start l.self.base l.at) l.index l.place;
  above : IsOpenAbove (worker_of l.seat) l.self.levels (place_from l.self.start l.self.base l.at) (offsets_below l.self.start l.self.base l.at) l.index;
  grew : GrewBy l.self.levels (place_from l.self.start l.self.base l.at) (offsets_below l.self.start l.self.base l.at) (worker_of l.fn.seat) (worker_of l.seat);
}
