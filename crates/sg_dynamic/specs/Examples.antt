-- Worked equations: chunks of four elements, and lengths of which the first are given.
use Rattle.std.specs.Prelude.{◌≡◌, Ok, Err, [], ◌∷◌, refl}
use Rattle.sg_dynamic.specs.Chunks.{chunks_of, chunk_need, fit, lengths_from}

pub none_for_none : chunks_of 4 0 ≡ 0
none_for_none = refl

pub one_for_four : chunks_of 4 4 ≡ 1
one_for_four = refl

pub two_for_five : chunks_of 4 5 ≡ 2
two_for_five = refl

pub three_together : chunk_need 4 (5 ∷ 0 ∷ 3 ∷ []) ≡ 3
three_together = refl

pub three_fit : fit 4 (5 ∷ 0 ∷ 3 ∷ []) 3 ≡ Ok tt
three_fit = refl

pub three_in_two : fit 4 (5 ∷ 0 ∷ 3 ∷ []) 2 ≡ Err (record { need = 3; cap = 2 })
three_in_two = refl

pub two_of_four : lengths_from (5 ∷ 3 ∷ []) 4 ≡ 5 ∷ 3 ∷ 0 ∷ 0 ∷ []
two_of_four = refl
