-- What follows what is there already.
use Rattle.std.specs.Prelude.{List, ◌++◌, Result, Ok, Err}

-- a list after another, if it is answered
abbrev pub behind_front : {A E : Type 0} → List A → Result (List A) E → Result (List A) E
behind_front front (Ok more) = Ok (front ++ more)
behind_front front (Err fault) = Err fault
