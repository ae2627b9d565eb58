use Rattle.std.proofs.Common.{◌≡◌, ℕ, ◌&&◌, not, ◌==◌, length}
use Rattle.std.specs.Prelude.{nat_lt, slice_index}
use Rattle.sg_store.specs.steps.KeptWords.{in_row}
use Rattle.sg_store.proofs.kept_rows.row_of_lengths.Given as goal

abbrev pub invariant-loop-place : goal.invariant-loop-place
invariant-loop-place l = record {
  long : length l.above ≡ l.places;
  each : (place : ℕ) → in_row l.above place ≡ (nat_lt place l.place && not (slice_index l.lengths place == 0));
}
