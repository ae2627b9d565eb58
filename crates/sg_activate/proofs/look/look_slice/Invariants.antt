use Rattle.std.proofs.Common.{◌≡◌, ◌<◌, Contains}
use Rattle.std.specs.Prelude.{All}
use Rattle.sg_coord.specs.declared.coord.Coord.{Coord}
use Rattle.sg_activate.specs.declared.found.Finds.{Finds}
use Rattle.sg_activate.specs.steps.Looked.{IsNew, AreKnown, LastIsKnown, noted}
use Rattle.sg_activate.proofs.look.look_slice.Given as goal

abbrev pub invariant-loop-piece : goal.invariant-loop-piece
invariant-loop-piece g l = record {
  hand : g.W.Wanted.IsHand l.look.want.now l.hand;
  axes : l.notes.axes ≡ l.look.axes;
  worker : l.notes.worker ≡ l.worker;
  last : LastIsKnown l.look.store.now l.notes;
  wanted : (at : Coord) → Contains (noted l.notes) at → IsNew l.look.store.now (g.W.Wanted.Means l.look.want.now) (g.W.Wanted.count l.look.want.now) at;
  of_workers : All (λ (finds : Finds). finds.worker < l.look.workers) l.notes.found;
  known : AreKnown l.look.store.now (g.W.Wanted.Means l.look.want.now) l.from l.piece (noted l.notes);
}
