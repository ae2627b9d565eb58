-- How far a run may go along the last axis.
use Rattle.std.specs.Prelude.{ℕ, ◌-◌, ◌+◌, ◌<◌, ◌^◌, nat_le, if◌then◌else◌, pos, ◌≤ℤ◌}
use Rattle.sg_coord.specs.declared.coord.Coord.{Coord}
use Rattle.sg_coord.specs.Bounds.{Bounds}
use Rattle.sg_coord.specs.Coord.{count_of}

-- how many points there are from this one on, along the last axis
abbrev pub room_after : Bounds → Coord → ℕ
room_after bounds at =
    if nat_le 3 at.n then bounds.c - count_of at.c else (if nat_le 2 at.n then bounds.b - count_of at.b else bounds.a - count_of at.a)

-- so far on from this point the parts are still numbers of I32
pub record IsShort (at : Coord) (k : ℕ) : Type 0 where
  pub a_low : pos 0 ≤ℤ at.a
  pub b_low : pos 0 ≤ℤ at.b
  pub c_low : pos 0 ≤ℤ at.c
  pub a_high : count_of at.a + k < 2 ^ 31
  pub b_high : count_of at.b + k < 2 ^ 31
  pub c_high : count_of at.c + k < 2 ^ 31
