use Rattle.std.proofs.Common.{◌≡◌, map, take, Some}
use Rattle.std.specs.Prelude.{All, Contains}
use Rattle.sg_flat.specs.declared.state.FlatLayout.{FlatLayout}
use Rattle.sg_store.specs.StandsFor.{StandsFor}
use Rattle.sg_store.specs.Walks.{cell_in}
use Rattle.sg_store.specs.WellFormed.{IsReached}
use Rattle.sg_snapshot.proofs.writing.cells_of.Given as goal

abbrev pub invariant-loop-at : goal.invariant-loop-at
invariant-loop-at l = record {
  reached : All (IsReached l.store) l.cells.items;
  cells : (flat : FlatLayout) → StandsFor l.store flat → All (Contains flat.active) l.coords → map (λ cell. Some cell) l.cells.items ≡ map (cell_in l.store) (take l.at-index l.coords);
}
