-- What workers have done with a seat, whatever the race.
use Rattle.std.specs.Prelude.{ℕ, ◌<◌, ◌≤◌}

-- the parts of workers from one number on to below another are done
abbrev pub HaveDone : {S : Type 0} → (ℕ → S → Type 0) → ℕ → ℕ → S → Type 0
HaveDone HasDone from to seat = (worker : ℕ) → from ≤ worker → worker < to → HasDone worker seat
