-- Worked equations: three pieces, each of which wants two coordinates.
use Rattle.std.specs.Prelude.{◌≡◌, ℕ, ◌+◌, List, [], ◌∷◌, Some, None, Ok, Err, refl}
use Rattle.sg_coord.specs.declared.coord.Coord.{Coord}
use Rattle.sg_layout.specs.Examples.{at1}
use Rattle.sg_activate.specs.declared.fault.ActFault.TheVariants.{PoolFull}
use Rattle.sg_activate.specs.Activating.{wanted_below, unless_full}

-- piece 1 wants the coordinate 1 and then 11
abbrev pub two_of : ℕ → List Coord
two_of piece = at1 piece ∷ at1 (piece + 10) ∷ []

pub no_piece_wants_nothing : wanted_below two_of 0 ≡ []
no_piece_wants_nothing = refl

-- piece 0 alone is below 1
pub the_first_piece : wanted_below two_of 1 ≡ at1 0 ∷ at1 10 ∷ []
the_first_piece = refl

pub piece_after_piece : wanted_below two_of 3 ≡ at1 0 ∷ at1 10 ∷ at1 1 ∷ at1 11 ∷ at1 2 ∷ at1 12 ∷ []
piece_after_piece = refl

pub enough_room : unless_full None ≡ Ok tt
enough_room = refl

-- node 2 has room for 7
pub no_room : unless_full (Some (record { node = 2; cap = 7 })) ≡ Err (PoolFull 2 7)
no_room = refl
