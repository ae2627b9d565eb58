use Rattle.std.proofs.Common.{◌≡◌, ℕ, ◌||◌, ◌&&◌, not, ◌==◌, length}
use Rattle.std.specs.Prelude.{nat_lt, slice_index}
use Rattle.sg_store.specs.steps.KeptWords.{in_row}
use Rattle.sg_store.proofs.valued.add_words.Given as goal

abbrev pub invariant-loop-cell : goal.invariant-loop-cell
invariant-loop-cell l = record {
  as_many : length l.row ≡ length l.fn.row;
  added : (cell : ℕ) → in_row l.row cell ≡ (in_row l.fn.row cell || (nat_lt cell l.cell && not (slice_index l.words cell == 0)));
}
