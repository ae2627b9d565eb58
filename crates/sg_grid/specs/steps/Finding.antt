-- What a stage of the code finds at the front of a slice, against the stage of the definition.
use Rattle.std.specs.Prelude.{◌≡◌, ℕ, List, ◌++◌, Option, Some, None, Result, Ok, Err}
use denote.Ref.{Bor}
use Rattle.sg_grid.specs.declared.grid.GridRun.{GridRun}
use Rattle.sg_grid.specs.declared.grid.GridFault.{GridFault}

-- the same is found, and the same is left
abbrev pub Finds : {A : Type 0} → Option (A × Bor (List ℕ)) → Option (A × List ℕ) → Type 0
Finds None meaning = meaning ≡ None
Finds (Some found) meaning = meaning ≡ Some (found.0, found.1.now)

-- the same is left
abbrev pub Leaves : Option (Bor (List ℕ)) → Option (List ℕ) → Type 0
Leaves None meaning = meaning ≡ None
Leaves (Some rest) meaning = meaning ≡ Some rest.now

-- a line gives the same run, and the same is left, or the same fault
abbrev pub FindsRun : Result (GridRun × Bor (List ℕ)) GridFault → Result (GridRun × List ℕ) GridFault → Type 0
FindsRun (Ok found) meaning = meaning ≡ Ok (found.0, found.1.now)
FindsRun (Err f) meaning = meaning ≡ Err f

-- more runs after these, if there is no fault
abbrev pub with_runs : List GridRun → Result (List GridRun) GridFault → Result (List GridRun) GridFault
with_runs runs (Ok more) = Ok (runs ++ more)
with_runs runs (Err f) = Err f
