-- A list cut into parts.
use Rattle.std.specs.Prelude.{ℕ, ◌*◌, List, take, drop}

-- the part with this number, from 0, of a list that is cut into parts with so many items each
abbrev pub part_of : {A : Type 0} → List A → ℕ → ℕ → List A
part_of items each part = take each (drop (part * each) items)
