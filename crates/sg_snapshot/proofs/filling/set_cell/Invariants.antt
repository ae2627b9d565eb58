use Rattle.std.proofs.Common.{◌≡◌, ℕ, ◌<◌, List, Some}
use Rattle.std.specs.Prelude.{Contains}
use Rattle.sg_coord.specs.declared.coord.Coord.{Coord}
use Rattle.sg_coord.specs.Bounds.{volume}
use Rattle.sg_coord.specs.Coord.{point_at}
use Rattle.sg_layout.specs.Axes.{bounds_of_shape}
use Rattle.sg_store.specs.StandsFor.{StandsFor}
use Rattle.sg_store.specs.Walks.{cell_in}
use Rattle.sg_store.specs.WellFormed.{IsReached}
use Rattle.sg_snapshot.specs.steps.Laying.{laid, IsLaid, GivesRow, words_at}
use Rattle.sg_snapshot.proofs.filling.set_cell.Given as goal

abbrev pub invariant-loop-place : goal.invariant-loop-place
invariant-loop-place l = record {
  same_shape : l.store.shape ≡ l.fn.store.shape;
  cell : cell_in l.store l.fn.at ≡ Some l.cell;
  reached : IsReached l.store l.cell;
  gives : (active : List Coord) (word : ℕ → ℕ → ℕ) (row : ℕ) → row < volume (bounds_of_shape l.fn.store.shape) → point_at (bounds_of_shape l.fn.store.shape) row ≡ l.fn.at
      → IsLaid l.fn.store.shape active word → Contains active l.fn.at → StandsFor l.fn.store (laid l.fn.store.shape active word)
      → GivesRow l.fn.store l.store l.place row (words_at l.words l.index) active word;
}
