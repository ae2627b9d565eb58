-- What other crates may use of these proofs: how a count that is kept rises.
use Rattle.std.proofs.Common.{ℕ, inl, inr, ◌≤◌, arith}
use Rattle.std.proofs.lemmas.Bool.{cases_lt}
use Rattle.sg_outside.specs.Counts.{last_count, one_more, Rose}

-- one more is a rise
pub rose : (n : ℕ) → Rose n (one_more n)
rose n = elim (cases_lt n last_count) [ inl below ↦ inl (omega arith) | inr at_last ↦ inr (omega arith) ]

-- a rise among calls in which the count never falls is a rise of the whole
pub rose_within : (a b c d : ℕ) → a ≤ b → Rose b c → c ≤ d → Rose a d
rose_within a b c d start h end = elim h [ inl more ↦ inl (omega arith) | inr at_last ↦ inr (omega arith) ]
