-- The limits of admission.
use Rattle.std.specs.Prelude.{ℕ, ◌^◌}

-- how many inner loops may stand in one another
abbrev pub most_loops : ℕ
most_loops = 4

-- how many turns the inner loops round a statement may make in one iteration
abbrev pub most_loop_turns : ℕ
most_loop_turns = 4096

-- how many points a kernel's box may have
abbrev pub most_box_points : ℕ
most_box_points = 2 ^ 20
