-- The limits of commands.
use Rattle.std.specs.Prelude.{ℕ}

-- the most turns of a `times`
abbrev pub most_times : ℕ
most_times = 1000
