-- The slices partition the range.
use Rattle.std.proofs.Common.{◌≡◌, ℕ, zero, suc, ◌+◌, ◌/◌, ◌<◌, ◌≤◌, inl, inr, arith}
use Rattle.std.proofs.lemmas.Bool.{cases_lt, cases_order}
use Rattle.std.proofs.Math.Nat.{mul-le-mul_right}
use Rattle.sg_coord.specs.Slices.{slice_start, IsInSlice}
use Rattle.sg_coord.specs.Laws.{SlicesPartition}

starts_rise : (len workers v w : ℕ) → v ≤ w → slice_start len workers v ≤ slice_start len workers w
starts_rise len workers v w h = omega (arith, mul-le-mul_right (len / workers) h)

last_start : (len workers : ℕ) → 1 ≤ workers → slice_start len workers workers ≡ len
last_start len workers some = omega arith

-- a number below the start of slice n is in one of the slices before
slice_below : (len workers n i : ℕ) → i < slice_start len workers n → (w : ℕ) × (w < n) × IsInSlice len workers w i
slice_below len workers zero i below = absurd (omega arith)
slice_below len workers (suc n) i below = elim (cases_lt i (slice_start len workers n)) [
  | inl before ↦ (let found = slice_below len workers n i before in (found.0, omega arith, found.2))
  | inr here ↦ (n, omega arith, record { from = here; below = omega arith })
]

one_slice : (len workers i v w : ℕ) → IsInSlice len workers v i → IsInSlice len workers w i → v ≡ w
one_slice len workers i v w p q = elim (cases_order v w) [
  | inl same ↦ same
  | inr (inl below) ↦ absurd (let h : v + 1 ≤ w = omega arith in omega (arith, starts_rise len workers (v + 1) w h, p.below, q.from))
  | inr (inr above) ↦ absurd (let h : w + 1 ≤ v = omega arith in omega (arith, starts_rise len workers (w + 1) v h, q.below, p.from))
]

pub slices_partition : SlicesPartition
slices_partition len workers some =
    let last = last_start len workers some in
    record {
      first = omega arith;
      last = last;
      within = λ w h. omega (arith, starts_rise len workers w workers h, last);
      at_least = λ w. omega arith;
      at_most = λ w. omega arith;
      covered = λ i below. slice_below len workers workers i (omega arith);
      apart = one_slice len workers;
    }
