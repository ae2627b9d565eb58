use Rattle.std.proofs.Common.{◌≡◌, List, Contains, take}
use Rattle.sg_coord.specs.declared.coord.Coord.{Coord}
use Rattle.sg_activate.specs.declared.found.Found.{Found}
use Rattle.sg_activate.specs.steps.Finding.{coord_found, coords_found}
use Rattle.sg_activate.proofs.asking.ask_each.Given as goal

abbrev pub invariant-loop-found : goal.invariant-loop-found
invariant-loop-found g l = record {
  own : g.P.Pass.IsSeatOf l.pass l.seat;
  weight : g.P.Pass.weight l.seat ≡ g.P.Pass.weight l.initial.seat;
  stays : (at : Coord) → g.P.Pass.IsMet l.pass at l.initial.seat → g.P.Pass.IsMet l.pass at l.seat;
  made : (wanted : List Coord) → ((at : Coord) → Contains (coords_found l.work.axes l.list) at → Contains wanted at) → g.P.Pass.IsMadeFor l.pass wanted l.initial.seat → g.P.Pass.IsMadeFor l.pass wanted l.seat;
  met : (found : Found) → Contains (take l.found-index l.list) found → g.P.Pass.IsMet l.pass (coord_found l.work.axes found) l.seat;
}
