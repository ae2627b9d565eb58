-- How a range of numbers is cut into one slice for each worker.
use Rattle.std.specs.Prelude.{◌≡◌, ℕ, ◌+◌, ◌*◌, ◌/◌, ◌%◌, ◌<◌, ◌≤◌, min, refl}

-- if the slice of worker w starts, and that of the worker before ends: each has the quotient of
-- the length, and each of the first ones has one more, until the remainder is used up
abbrev pub slice_start : (len workers w : ℕ) → ℕ
slice_start len workers w = w * (len / workers) + min w (len % workers)

-- the number is in the slice of worker w
pub record IsInSlice (len workers w i : ℕ) : Type 0 where
  pub from : slice_start len workers w ≤ i
  pub below : i < slice_start len workers (w + 1)

-- the slices begin at 0 and end at the length; each number below the length is in the slice of one
-- worker and of no other; and the lengths of the slices differ by one at most
pub record IsPartition (len workers : ℕ) : Type 0 where
  pub first : slice_start len workers 0 ≡ 0
  pub last : slice_start len workers workers ≡ len
  pub within : (w : ℕ) → w ≤ workers → slice_start len workers w ≤ len
  pub at_least : (w : ℕ) → slice_start len workers w + len / workers ≤ slice_start len workers (w + 1)
  pub at_most : (w : ℕ) → slice_start len workers (w + 1) ≤ slice_start len workers w + len / workers + 1
  pub covered : (i : ℕ) → i < len → (w : ℕ) × (w < workers) × IsInSlice len workers w i
  pub apart : (i v w : ℕ) → IsInSlice len workers v i → IsInSlice len workers w i → v ≡ w

-- ---- examples: 10 by 4 is 3, 3, 2 and 2, and 2 by 3 is 1, 1 and 0
second_start : slice_start 10 4 1 ≡ 3
second_start = refl

third_start : slice_start 10 4 2 ≡ 6
third_start = refl

fourth_start : slice_start 10 4 3 ≡ 8
fourth_start = refl

end_of_all : slice_start 10 4 4 ≡ 10
end_of_all = refl

empty_slice : slice_start 2 3 2 ≡ 2
empty_slice = refl
