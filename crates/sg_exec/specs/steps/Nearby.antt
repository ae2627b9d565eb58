-- A coordinate whose cell is known, and the cells that follow.
use Rattle.std.specs.Prelude.{◌≡◌, ℕ, pos, ◌+ℤ◌, Bool, false, List, length, Some, option_map, unwrap_or, slice_get}
use Rattle.sg_coord.specs.declared.coord.Coord.{Coord}
use Rattle.sg_layout.specs.declared.shape.Shape.{Shape}
use Rattle.sg_layout.specs.Closure.{is_dense}
use Rattle.sg_layout.specs.Live.{kind_at}
use Rattle.sg_store.specs.StoreWords.{StoreWords}
use Rattle.sg_store.specs.Walks.{cell_in}
use Rattle.sg_store.specs.WellFormed.{IsReached}
use Rattle.sg_store.specs.Following.{CellsFollow}
use Rattle.sg_exec.specs.declared.lanes.near.Near.{Near}
use Rattle.sg_exec.specs.steps.Machines.{cell_there, IsCellOf}

-- the cell is that of the coordinate in a store, and so many follow; each cell of a coordinate is reached
pub record IsNearIn (store : StoreWords) (near : Near) : Type 0 where
  pub is : cell_in store near.at ≡ Some near.cell
  pub follow : CellsFollow store near.at near.left
  pub reached : (at : Coord) (cell : ℕ) → cell_in store at ≡ Some cell → IsReached store cell

-- the same in a layout's store
pub record IsNear (stores : List StoreWords) (layout : ℕ) (near : Near) : Type 0 where
  pub store : StoreWords
  pub there : slice_get stores layout ≡ Some store
  pub within : IsNearIn store near

-- a cell was found: it is that of the coordinate in a layout's store
pub record IsFound (stores : List StoreWords) (layout : ℕ) (at : Coord) (cell : ℕ) : Type 0 where
  pub is : cell_there stores layout (Some at) ≡ Some cell
  pub of : IsCellOf stores layout cell

-- The last node of a shape is dense. Else no cell follows another along the last axis.
abbrev pub ends_dense : Shape → Bool
ends_dense shape = is_dense (kind_at shape.nodes (length shape.nodes))

-- the same of a layout's store
abbrev pub may_follow : List StoreWords → ℕ → Bool
may_follow stores layout = unwrap_or (option_map (λ store. ends_dense store.shape) (slice_get stores layout)) false

-- a coordinate so much further along an axis
abbrev pub on_first : ℕ → Coord → Coord
on_first k at = record { n = at.n; a = at.a +ℤ pos k; b = at.b; c = at.c }

abbrev pub on_second : ℕ → Coord → Coord
on_second k at = record { n = at.n; a = at.a; b = at.b +ℤ pos k; c = at.c }

abbrev pub on_third : ℕ → Coord → Coord
on_third k at = record { n = at.n; a = at.a; b = at.b; c = at.c +ℤ pos k }
