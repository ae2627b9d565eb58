-- What a seat has met of what workers found.
use Rattle.std.specs.Prelude.{◌≡◌, ℕ, List, Contains}
use Rattle.sg_coord.specs.declared.coord.Coord.{Coord}
use Rattle.sg_activate.specs.declared.found.Finds.{Finds}
use Rattle.sg_activate.specs.steps.Finding.{coords_found}

-- it has met all that one worker found
abbrev pub HasMetOf : {S : Type 0} → (Coord → S → Type 0) → ℕ → List Finds → ℕ → S → Type 0
HasMetOf IsMet axes list worker seat =
    (finds : Finds) → Contains list finds → finds.worker ≡ worker → (at : Coord) → Contains (coords_found axes finds.list) at → IsMet at seat
