-- Worked grid texts, over the points 0 to 15 of one axis, and over 4 planes of 2 rows of 8.
use Rattle.std.specs.Prelude.{◌≡◌, refl, ℕ, ℤ, pos, List, [], ◌∷◌, map, Result, Ok, Err, codes}
use Rattle.std.specs.Fmt.{digits}
use Rattle.sg_coord.specs.Bounds.{Bounds}
use Rattle.sg_coord.specs.Coord.{space_point}
use Rattle.sg_words.specs.declared.operators.Ty.TheVariants as ty
use Rattle.sg_grid.specs.declared.grid.GridRow.{GridRow}
use Rattle.sg_grid.specs.declared.grid.GridFault.{GridFault}
use Rattle.sg_grid.specs.declared.grid.GridFault.TheVariants as fault
use Rattle.sg_grid.specs.GridText.{grid_text}
use Rattle.sg_grid.specs.Fronts.{rest_after, count_at, number_at, number_before, further_part_at, coordinate_at, length_at, line_at, head_at}
use Rattle.sg_grid.specs.Reading.{run_in, runs_of, rows_of}

abbrev line_of_sixteen : Bounds
line_of_sixteen = record { n = 1; a = 16; b = 1; c = 1 }

abbrev planes : Bounds
planes = record { n = 3; a = 4; b = 2; c = 8 }

abbrev row : ℤ → ℕ → GridRow
row a word = record { at = record { n = 1; a = a; b = pos 0; c = pos 0 }; word = word }

abbrev read : List ℕ → Result (List GridRow) GridFault
read bytes = rows_of line_of_sixteen ty.I32 bytes

written : grid_text 1 ty.I32 (row (pos 3) 1 ∷ row (pos 4) 4294967294 ∷ []) ≡ codes "grid 1 2\n3 1\n4 -2\n"
unfolding digits
written = refl

no_rows_written : grid_text 2 ty.U32 [] ≡ codes "grid 2 0\n"
unfolding digits
no_rows_written = refl

good : read (codes "grid 1 2\n3 1\n4 -2\n") ≡ Ok (row (pos 3) 1 ∷ row (pos 4) 4294967294 ∷ [])
unfolding rows_of runs_of head_at run_in line_at length_at coordinate_at further_part_at number_before number_at count_at rest_after digits
good = refl

good_of_three_axes : rows_of planes ty.U32 (codes "grid 3 1\n3 1 7 4294967295\n") ≡ Ok (record { at = space_point (pos 3) (pos 1) (pos 7); word = 4294967295 } ∷ [])
unfolding rows_of runs_of head_at run_in line_at length_at coordinate_at further_part_at number_before number_at count_at rest_after digits
good_of_three_axes = refl

-- what is refused for its second line: no number, nothing after the value, a value of another type
bad_lines : map read (codes "grid 1 1\n0 -0\n" ∷ codes "grid 1 1\n0 05\n" ∷ codes "grid 1 1\n0 5" ∷ codes "grid 1 1\n0 2147483648\n" ∷ codes "grid 1 1\n0  5\n" ∷ [])
    ≡ Err (fault.BadText 2) ∷ Err (fault.BadText 2) ∷ Err (fault.BadText 2) ∷ Err (fault.BadText 2) ∷ Err (fault.BadText 2) ∷ []
unfolding rows_of runs_of head_at run_in line_at length_at coordinate_at further_part_at number_before number_at count_at rest_after digits
bad_lines = refl

-- and for its first: other axes, no number, no newline
bad_first_lines : map read (codes "grid 2 0\n" ∷ codes "grid3 1 0\n" ∷ codes "grid2 2 0\n" ∷ codes "grid 1 -1\n" ∷ codes "grid 1 0" ∷ codes "grid 1 1048577" ∷ [])
    ≡ Err (fault.BadText 1) ∷ Err (fault.BadText 1) ∷ Err (fault.BadText 1) ∷ Err (fault.BadText 1) ∷ Err (fault.BadText 1) ∷ Err (fault.BadText 1) ∷ []
unfolding rows_of runs_of head_at run_in line_at length_at coordinate_at further_part_at number_before number_at count_at rest_after digits
bad_first_lines = refl

not_rising : read (codes "grid 1 2\n3 1\n2 1\n") ≡ Err (fault.NotRising 3)
unfolding rows_of runs_of head_at run_in line_at length_at coordinate_at further_part_at number_before number_at count_at rest_after digits
not_rising = refl

equal_does_not_rise : read (codes "grid 1 2\n3 1\n3 2\n") ≡ Err (fault.NotRising 3)
unfolding rows_of runs_of head_at run_in line_at length_at coordinate_at further_part_at number_before number_at count_at rest_after digits
equal_does_not_rise = refl

missing_line : read (codes "grid 1 2\n0 5\n") ≡ Err (fault.BadText 3)
unfolding rows_of runs_of head_at run_in line_at length_at coordinate_at further_part_at number_before number_at count_at rest_after digits
missing_line = refl

further_bytes : read (codes "grid 1 1\n0 5\n1 5\n") ≡ Err (fault.BadText 3)
unfolding rows_of runs_of head_at run_in line_at length_at coordinate_at further_part_at number_before number_at count_at rest_after digits
further_bytes = refl

outside : read (codes "grid 1 1\n16 5\n") ≡ Err (fault.Outside 2)
unfolding rows_of runs_of head_at run_in line_at length_at coordinate_at further_part_at number_before number_at count_at rest_after digits
outside = refl

-- a line is tested for its form before its coordinate, and for its coordinate before its order
form_first : read (codes "grid 1 1\n16 x\n") ≡ Err (fault.BadText 2)
unfolding rows_of runs_of head_at run_in line_at length_at coordinate_at further_part_at number_before number_at count_at rest_after digits
form_first = refl

outside_next : read (codes "grid 1 2\n3 1\n-1 5\n") ≡ Err (fault.Outside 3)
unfolding rows_of runs_of head_at run_in line_at length_at coordinate_at further_part_at number_before number_at count_at rest_after digits
outside_next = refl

too_many_rows : read (codes "grid 1 1048577\n16 x") ≡ Err fault.TooManyRows
unfolding rows_of runs_of head_at run_in line_at length_at coordinate_at further_part_at number_before number_at count_at rest_after digits
too_many_rows = refl

any_number_of_digits : read (codes "grid 1 1000000000000000000000000000000000000000\n") ≡ Err fault.TooManyRows
unfolding rows_of runs_of head_at run_in line_at length_at coordinate_at further_part_at number_before number_at count_at rest_after digits
any_number_of_digits = refl
