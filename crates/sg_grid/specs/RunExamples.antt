-- Worked grid texts of version 2, over the points 0 to 15 of one axis, and over 3 rows of 5.
use Rattle.std.specs.Prelude.{◌≡◌, refl, ℕ, ℤ, pos, List, [], ◌∷◌, map, Option, Some, None, Result, Ok, Err, codes}
use Rattle.std.specs.Fmt.{digits}
use Rattle.sg_coord.specs.declared.coord.Coord.{Coord}
use Rattle.sg_coord.specs.Bounds.{Bounds}
use Rattle.sg_coord.specs.Coord.{plane_point}
use Rattle.sg_words.specs.declared.operators.Ty.TheVariants as ty
use Rattle.sg_grid.specs.declared.grid.GridRow.{GridRow}
use Rattle.sg_grid.specs.declared.grid.GridRun.{GridRun}
use Rattle.sg_grid.specs.declared.grid.GridFault.{GridFault}
use Rattle.sg_grid.specs.declared.grid.GridFault.TheVariants as fault
use Rattle.sg_grid.specs.declared.grid.Version.TheVariants.{Two}
use Rattle.sg_grid.specs.GridText.{text_of_runs}
use Rattle.sg_grid.specs.Fronts.{rest_after, count_at, number_at, number_before, further_part_at, coordinate_at, length_at, line_at, head_at}
use Rattle.sg_grid.specs.Reading.{run_in, runs_of, run_tested, rows_of}

abbrev line_of_sixteen : Bounds
line_of_sixteen = record { n = 1; a = 16; b = 1; c = 1 }

abbrev plane : Bounds
plane = record { n = 2; a = 3; b = 5; c = 1 }

abbrev point : ℤ → Coord
point a = record { n = 1; a = a; b = pos 0; c = pos 0 }

abbrev row : ℤ → ℕ → GridRow
row a word = record { at = point a; word = word }

abbrev plane_row : ℤ → ℤ → ℕ → GridRow
plane_row a b word = record { at = plane_point a b; word = word }

abbrev run : ℤ → (len word : ℕ) → GridRun
run a len word = record { at = point a; len = len; word = word }

abbrev read : List ℕ → Result (List GridRow) GridFault
read bytes = rows_of line_of_sixteen ty.I32 bytes

runs_written : text_of_runs Two 1 ty.I32 (run (pos 0) 3 5 ∷ run (pos 8) 1 4294967294 ∷ []) ≡ codes "grid2 1 2\n0 3 5\n8 1 -2\n"
unfolding digits
runs_written = refl

runs_of_one_axis : read (codes "grid2 1 2\n0 3 5\n8 1 -2\n") ≡ Ok (row (pos 0) 5 ∷ row (pos 1) 5 ∷ row (pos 2) 5 ∷ row (pos 8) 4294967294 ∷ [])
unfolding rows_of runs_of head_at run_in line_at length_at coordinate_at further_part_at number_before number_at count_at rest_after digits
runs_of_one_axis = refl

-- a run goes along the last axis, and doesn't go on in the next row
runs_of_two_axes : rows_of plane ty.U32 (codes "grid2 2 2\n0 3 2 7\n1 0 1 4294967295\n") ≡ Ok (plane_row (pos 0) (pos 3) 7 ∷ plane_row (pos 0) (pos 4) 7 ∷ plane_row (pos 1) (pos 0) 4294967295 ∷ [])
unfolding rows_of runs_of head_at run_in line_at length_at coordinate_at further_part_at number_before number_at count_at rest_after digits
runs_of_two_axes = refl

past_its_row : rows_of plane ty.U32 (codes "grid2 2 1\n0 3 3 7\n") ≡ Err (fault.Outside 2)
unfolding rows_of runs_of head_at run_in line_at length_at coordinate_at further_part_at number_before number_at count_at rest_after digits
past_its_row = refl

leads_outside : map read (codes "grid2 1 1\n14 3 1\n" ∷ codes "grid2 1 1\n0 2147483647 1\n" ∷ codes "grid2 1 1\n2147483647 2147483647 1\n" ∷ codes "grid2 1 1\n-1 2 1\n" ∷ []) ≡ Err (fault.Outside 2) ∷ Err (fault.Outside 2) ∷ Err (fault.Outside 2) ∷ Err (fault.Outside 2) ∷ []
unfolding rows_of runs_of head_at run_in line_at length_at coordinate_at further_part_at number_before number_at count_at rest_after digits
leads_outside = refl

-- a length is a number of I32 from 1 on, and stands in version 2 alone
bad_lengths : map read (codes "grid2 1 1\n0 0 1\n" ∷ codes "grid2 1 1\n0 -1 1\n" ∷ codes "grid2 1 1\n0 2147483648 1\n" ∷ codes "grid2 1 1\n0 03 1\n" ∷ codes "grid2 1 1\n0 5\n" ∷ codes "grid 1 1\n0 3 5\n" ∷ []) ≡ Err (fault.BadText 2) ∷ Err (fault.BadText 2) ∷ Err (fault.BadText 2) ∷ Err (fault.BadText 2) ∷ Err (fault.BadText 2) ∷ Err (fault.BadText 2) ∷ []
unfolding rows_of runs_of head_at run_in line_at length_at coordinate_at further_part_at number_before number_at count_at rest_after digits
bad_lengths = refl

begins_inside_the_run_before : read (codes "grid2 1 2\n0 3 5\n2 1 1\n") ≡ Err (fault.NotRising 3)
unfolding rows_of runs_of head_at run_in line_at length_at coordinate_at further_part_at number_before number_at count_at rest_after digits
begins_inside_the_run_before = refl

begins_after_it : read (codes "grid2 1 2\n0 2 5\n2 1 1\n") ≡ Ok (row (pos 0) 5 ∷ row (pos 1) 5 ∷ row (pos 2) 1 ∷ [])
unfolding rows_of runs_of head_at run_in line_at length_at coordinate_at further_part_at number_before number_at count_at rest_after digits
begins_after_it = refl

-- a line is tested for its form, then for where its rows are, then for its order, then for how many rows there are
form_before_place : read (codes "grid2 1 1\n14 3 x\n") ≡ Err (fault.BadText 2)
unfolding rows_of runs_of head_at run_in line_at length_at coordinate_at further_part_at number_before number_at count_at rest_after digits
form_before_place = refl

place_before_order : read (codes "grid2 1 2\n4 1 1\n3 14 1\n") ≡ Err (fault.Outside 3)
unfolding rows_of runs_of head_at run_in line_at length_at coordinate_at further_part_at number_before number_at count_at rest_after digits
place_before_order = refl

count_first : read (codes "grid2 1 1048577\n16 x") ≡ Err fault.TooManyRows
unfolding rows_of runs_of head_at run_in line_at length_at coordinate_at further_part_at number_before number_at count_at rest_after digits
count_first = refl

missing_run : read (codes "grid2 1 2\n0 1 5\n") ≡ Err (fault.BadText 3)
unfolding rows_of runs_of head_at run_in line_at length_at coordinate_at further_part_at number_before number_at count_at rest_after digits
missing_run = refl

bytes_after_runs : read (codes "grid2 1 1\n0 1 5\n1 1 5\n") ≡ Err (fault.BadText 3)
unfolding rows_of runs_of head_at run_in line_at length_at coordinate_at further_part_at number_before number_at count_at rest_after digits
bytes_after_runs = refl

no_runs : read (codes "grid2 1 0\n") ≡ Ok []
unfolding rows_of runs_of head_at run_in line_at length_at coordinate_at further_part_at number_before number_at count_at rest_after digits
no_runs = refl

-- a run of the points 14 and 15 after so many rows, the last of them at a point
abbrev last_two : ℕ → Option Coord → Result (GridRun × List ℕ) GridFault
last_two sofar last = run_tested line_of_sixteen (record { line = 7; rows = sofar; last = last }) (Some (run (pos 14) 2 0, []))

at_the_limit : last_two 1048574 None ≡ Ok (run (pos 14) 2 0, [])
at_the_limit = refl

past_the_limit : last_two 1048575 None ≡ Err fault.TooManyRows
past_the_limit = refl

order_before_limit : last_two 1048575 (Some (point (pos 15))) ≡ Err (fault.NotRising 7)
order_before_limit = refl
