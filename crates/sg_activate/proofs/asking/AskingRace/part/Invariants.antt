use Rattle.std.proofs.Common.{◌≡◌, Contains, take}
use Rattle.sg_coord.specs.declared.coord.Coord.{Coord}
use Rattle.sg_activate.specs.declared.found.Finds.{Finds}
use Rattle.sg_activate.specs.steps.Finding.{coords_found, found_in}
use Rattle.sg_activate.proofs.asking.AskingRace.part.Given as goal

abbrev pub invariant-loop-finds : goal.invariant-loop-finds
invariant-loop-finds g l = record {
  own : g.P.Pass.IsSeatOf l.self.pass.now l.seat;
  weight : g.P.Pass.weight l.seat ≡ g.P.Pass.weight l.initial.seat;
  made : g.P.Pass.IsMadeFor l.self.pass.now (found_in l.self.work.now.axes l.self.work.now.found.now) l.seat;
  met : (finds : Finds) → Contains (take l.finds-index l.self.work.now.found.now) finds → finds.worker ≡ l.worker → (at : Coord) → Contains (coords_found l.self.work.now.axes finds.list) at → g.P.Pass.IsMet l.self.pass.now at l.seat;
}
