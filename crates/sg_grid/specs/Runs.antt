-- Runs of rows: what a line of a grid text stands for. In version 1 it is one row.
use Rattle.std.specs.Prelude.{◌≡◌, refl, ℕ, ◌-◌, nat_le, if◌then◌else◌, pos, ◌+ℤ◌, List, [], ◌∷◌, map}
use Rattle.std.specs.List.{range_with_len, flat_map}
use Rattle.sg_coord.specs.declared.coord.Coord.{Coord}
use Rattle.sg_coord.specs.Coord.{plane_point, space_point}
use Rattle.sg_grid.specs.declared.grid.GridRow.{GridRow}
use Rattle.sg_grid.specs.declared.grid.GridRun.{GridRun}

-- the coordinate that is so far along the last axis
abbrev pub along : ℕ → Coord → Coord
along k at =
    if nat_le 3 at.n then record { n = at.n; a = at.a; b = at.b; c = at.c +ℤ pos k }
    else (if nat_le 2 at.n then record { n = at.n; a = at.a; b = at.b +ℤ pos k; c = at.c }
    else record { n = at.n; a = at.a +ℤ pos k; b = at.b; c = at.c })

-- the coordinate of a run's last row
abbrev pub end_of : GridRun → Coord
end_of run = along (run.len - 1) run.at

-- the rows of a run: the same word at each coordinate
abbrev pub run_rows : GridRun → List GridRow
run_rows run = map (λ k. record { at = along k run.at; word = run.word }) (range_with_len 0 run.len)

-- the rows of runs, one run after the other
abbrev pub rows_of_runs : List GridRun → List GridRow
rows_of_runs runs = flat_map run_rows runs

-- ---- examples
three_in_the_plane : run_rows (record { at = plane_point (pos 1) (pos 6); len = 3; word = 9 })
    ≡ record { at = plane_point (pos 1) (pos 6); word = 9 } ∷ record { at = plane_point (pos 1) (pos 7); word = 9 } ∷ record { at = plane_point (pos 1) (pos 8); word = 9 } ∷ []
three_in_the_plane = refl

end_in_space : end_of (record { at = space_point (pos 1) (pos 2) (pos 3); len = 4; word = 0 }) ≡ space_point (pos 1) (pos 2) (pos 6)
end_in_space = refl
