-- The writes that a load of runs makes: a run's rows get the same word, side by side along the last axis.
use Rattle.std.specs.Prelude.{◌≡◌, refl, ℕ, ◌+◌, ◌-◌, ◌^◌, ◌<◌, nat_le, if◌then◌else◌, pos, ◌+ℤ◌, ◌≤ℤ◌, List, [], ◌∷◌, map}
use Rattle.std.specs.List.{range_with_len, flat_map}
use Rattle.sg_coord.specs.declared.coord.Coord.{Coord}
use Rattle.sg_coord.specs.Coord.{count_of, plane_point, space_point}
use Rattle.sg_layout.specs.Examples.{at1}
use Rattle.sg_flat.specs.declared.effects.Way.TheVariants.{Own}
use Rattle.sg_flat.specs.declared.effects.Write.{Write}
use Rattle.sg_exec.specs.declared.loads.row_run.RowRun.{RowRun}

-- the coordinate that is so far along the last axis
abbrev pub along : ℕ → Coord → Coord
along k at =
    if nat_le 3 at.n then record { n = at.n; a = at.a; b = at.b; c = at.c +ℤ pos k }
    else (if nat_le 2 at.n then record { n = at.n; a = at.a; b = at.b +ℤ pos k; c = at.c }
    else record { n = at.n; a = at.a +ℤ pos k; b = at.b; c = at.c })

-- no part is below 0, and so far on from there each is a number of I32
pub record IsShort (at : Coord) (k : ℕ) : Type 0 where
  pub a_low : pos 0 ≤ℤ at.a
  pub b_low : pos 0 ≤ℤ at.b
  pub c_low : pos 0 ≤ℤ at.c
  pub a_high : count_of at.a + k < 2 ^ 31
  pub b_high : count_of at.b + k < 2 ^ 31
  pub c_high : count_of at.c + k < 2 ^ 31

-- so are the coordinates of all rows of a run
abbrev pub IsShortRun : RowRun → Type 0
IsShortRun run = IsShort run.at (run.len - 1)

-- the own write of a run's row, numbered from 0, into a field of a layout, both from 0
abbrev pub run_write : ℕ → ℕ → RowRun → ℕ → Write
run_write layout place run k =
    record { layout = layout; place = place; stmt = 0; at = along k run.at; way = Own; value = run.word }

-- the writes of all rows of a run
abbrev pub run_writes : ℕ → ℕ → RowRun → List Write
run_writes layout place run = map (run_write layout place run) (range_with_len 0 run.len)

-- the writes of the rows of runs, one run after the other
abbrev pub writes_of_runs : ℕ → ℕ → List RowRun → List Write
writes_of_runs layout place runs = flat_map (run_writes layout place) runs

-- ---- examples
abbrev nine : Coord → Write
nine at = record { layout = 4; place = 5; stmt = 0; at = at; way = Own; value = 9 }

two_on_the_line : run_writes 4 5 (record { at = at1 6; len = 2; word = 9 }) ≡ nine (at1 6) ∷ nine (at1 7) ∷ []
two_on_the_line = refl

two_in_the_plane : run_writes 4 5 (record { at = plane_point (pos 1) (pos 6); len = 2; word = 9 })
    ≡ nine (plane_point (pos 1) (pos 6)) ∷ nine (plane_point (pos 1) (pos 7)) ∷ []
two_in_the_plane = refl

one_run_after_the_other :
    writes_of_runs 4 5 (record { at = space_point (pos 0) (pos 0) (pos 3); len = 1; word = 9 } ∷ record { at = space_point (pos 1) (pos 2) (pos 3); len = 2; word = 9 } ∷ [])
    ≡ nine (space_point (pos 0) (pos 0) (pos 3)) ∷ nine (space_point (pos 1) (pos 2) (pos 3)) ∷ nine (space_point (pos 1) (pos 2) (pos 4)) ∷ []
one_run_after_the_other = refl
