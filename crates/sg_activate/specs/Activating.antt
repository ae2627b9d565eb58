-- What activation answers, and what it makes of a store.
use Rattle.std.specs.Prelude.{◌≡◌, ℕ, zero, suc, List, [], ◌++◌, Option, Some, None, Result, Ok, Err}
use Rattle.sg_coord.specs.declared.coord.Coord.{Coord}
use Rattle.sg_layout.specs.Need.{FullNode}
use Rattle.sg_activate.specs.declared.fault.ActFault.{ActFault}
use Rattle.sg_activate.specs.declared.fault.ActFault.TheVariants.{PoolFull}

-- what the first pieces want, piece after piece
abbrev pub wanted_below : (ℕ → List Coord) → ℕ → List Coord
wanted_below list zero = []
wanted_below list (suc piece) = wanted_below list piece ++ list piece

-- after want of memory a list has what it had before, and then a front of what a piece wants, whichever lists are meant
abbrev pub HasFront : ((ℕ → List Coord) → Type 0) → ℕ → List Coord → List Coord → Type 0
HasFront Means piece old new = (front : List Coord) × (new ≡ old ++ front) × ((list : ℕ → List Coord) → Means list → (rest : List Coord) × (list piece ≡ front ++ rest))

-- nothing if no node is too full, else the fault that names the first
abbrev pub unless_full : Option FullNode → Result Unit ActFault
unless_full None = Ok tt
unless_full (Some full) = Err (PoolFull full.node full.cap)
