-- The list that a look writes down, as its coordinates.
use Rattle.std.specs.Prelude.{ℕ, ◌<◌, List, [], ◌∷◌, ◌++◌, All, Contains}
use Rattle.sg_coord.specs.declared.coord.Coord.{Coord}
use Rattle.sg_activate.specs.declared.found.Found.{Found}
use Rattle.sg_activate.specs.declared.found.Finds.{Finds}

-- a coordinate by its parts, with so many axes
abbrev pub coord_found : ℕ → Found → Coord
coord_found axes found = record { n = axes; a = found.a; b = found.b; c = found.c }

abbrev pub coords_found : ℕ → List Found → List Coord
coords_found axes [] = []
coords_found axes (found ∷ more) = coord_found axes found ∷ coords_found axes more

-- all that stand in the list
abbrev pub found_in : ℕ → List Finds → List Coord
found_in axes [] = []
found_in axes (finds ∷ more) = coords_found axes finds.list ++ found_in axes more

-- each is such a coordinate, and was found by one of so many workers
pub record AreFound (Says : Coord → Type 0) (axes workers : ℕ) (list : List Finds) : Type 0 where
  pub says : (at : Coord) → Contains (found_in axes list) at → Says at
  pub of_workers : All (λ finds. finds.worker < workers) list
