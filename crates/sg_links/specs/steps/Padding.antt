-- Rows that end before their last places, which have the same item.
use Rattle.std.specs.Prelude.{ℕ, ◌-◌, List, ◌++◌, length, replicate}

-- items, and then the same one up to so many places
abbrev pub padded_with : {A : Type 0} → List A → A → ℕ → List A
padded_with items rest places = items ++ replicate (places - length items) rest
