use Rattle.std.proofs.Common.{◌≡◌, ℕ, false, take, length, nat_lt}
use Rattle.std.specs.Prelude.{slice_index_or}
use Rattle.sg_words.specs.Counts.{times_in}
use Rattle.sg_words.proofs.links.set_of.Given as goal

abbrev pub invariant-loop-number : goal.invariant-loop-number
invariant-loop-number l = record {
  long : length l.set ≡ l.places;
  stand : (x : ℕ) → slice_index_or l.set x false ≡ nat_lt 0 (times_in x (take l.number-index l.numbers));
}
