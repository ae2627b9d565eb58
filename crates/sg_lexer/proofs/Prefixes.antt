-- What stands at the front of some bytes and passes a test.
use Rattle.std.proofs.Common.{◌≡◌, ℕ, ◌+◌, ◌<◌, Bool, true, List, [], ◌∷◌, length, slice_index, arith}
use Rattle.std.specs.List.{prefix_len}
use Rattle.std.proofs.lemmas.Bool.{cond-true}

pub prefix_some : (p : ℕ → Bool) (bytes : List ℕ) → 0 < length bytes → p (slice_index bytes 0) ≡ true → 0 < prefix_len p bytes
prefix_some p [] some e = absurd (omega arith)
prefix_some p (b ∷ bytes) some e = omega (arith, cond-true (p b) (1 + prefix_len p bytes) 0 e)
