use Rattle.std.proofs.Common.{Contains, take}
use Rattle.sg_coord.specs.declared.coord.Coord.{Coord}
use Rattle.sg_activate.specs.steps.Looked.{IsKnown, LastIsKnown, NotesNew, NotesGrew, noted}
use Rattle.sg_activate.proofs.look.look_each.Given as goal

abbrev pub invariant-loop-at : goal.invariant-loop-at
invariant-loop-at l = record {
  last : LastIsKnown l.store l.notes;
  grew : NotesGrew l.coords l.initial.notes l.notes;
  new : NotesNew l.store l.initial.notes l.notes;
  known : (at : Coord) → Contains (take l.at-index l.coords) at → IsKnown l.store (noted l.notes) at;
}
