use Rattle.std.specs.Prelude.{◌≡◌, ℕ, ◌<◌, List, [], ◌∷◌, ◌++◌, length, take, Option, Some, None, refl}
use Rattle.std.specs.Option.{option_map}
use Rattle.sg_outside.specs.declared.sink.Put.{Put}
use Rattle.sg_outside.specs.declared.sink.Put.TheVariants as put
use Rattle.std.proofs.Common.{lit<}
use Rattle.sg_outside.specs.Counts.{one_more, Rose}

-- the told bytes with a piece after them; if nothing is told, nothing is
abbrev pub followed_by : Option (List ℕ) → List ℕ → Option (List ℕ)
followed_by told piece = option_map (λ bytes. bytes ++ piece) told

followed_by_told : followed_by (Some (1 ∷ [])) (2 ∷ 3 ∷ []) ≡ Some (1 ∷ 2 ∷ 3 ∷ [])
followed_by_told = refl

followed_by_untold : followed_by None (2 ∷ 3 ∷ []) ≡ None
followed_by_untold = refl

-- what a put wrote: the whole piece, a part at its front that is not the whole, or nothing
abbrev pub Puts : Put → Option (List ℕ) → Option (List ℕ) → List ℕ → Type 0
Puts put.All old new piece = new ≡ followed_by old piece
Puts (put.Failed taken) old new piece = (taken < length piece) × (new ≡ followed_by old (take taken piece))
Puts put.Memory old new piece = new ≡ old

puts_all : Puts put.All (Some (1 ∷ [])) (Some (1 ∷ 2 ∷ 3 ∷ [])) (2 ∷ 3 ∷ [])
puts_all = refl

puts_front : Puts (put.Failed 1) (Some (1 ∷ [])) (Some (1 ∷ 2 ∷ [])) (2 ∷ 3 ∷ [])
puts_front = (lit< tt, refl)

puts_nothing : Puts put.Memory (Some (1 ∷ [])) (Some (1 ∷ [])) (2 ∷ 3 ∷ [])
puts_nothing = refl

puts_untold : Puts put.All None None (2 ∷ 3 ∷ [])
puts_untold = refl

-- the pieces that were put whole so far, in order, with one more; if nothing is told, nothing is
abbrev pub piece_too : Option (List (List ℕ)) → List ℕ → Option (List (List ℕ))
piece_too pieces piece = option_map (λ told. told ++ piece ∷ []) pieces

piece_too_told : piece_too (Some ((1 ∷ []) ∷ [])) (2 ∷ 3 ∷ []) ≡ Some ((1 ∷ []) ∷ (2 ∷ 3 ∷ []) ∷ [])
piece_too_told = refl

-- which pieces were put whole after a put: one more where all of it was written, and else the same
abbrev pub pieces_after : Put → Option (List (List ℕ)) → List ℕ → Option (List (List ℕ))
pieces_after put.All pieces piece = piece_too pieces piece
pieces_after (put.Failed taken) pieces piece = pieces
pieces_after put.Memory pieces piece = pieces

a_part_is_no_piece : pieces_after (put.Failed 1) (Some ((1 ∷ []) ∷ [])) (2 ∷ 3 ∷ []) ≡ Some ((1 ∷ []) ∷ [])
a_part_is_no_piece = refl

-- the count of faults rose where the put failed, and stays at every other answer
abbrev pub PutCause : Put → ℕ → ℕ → Type 0
PutCause put.All before now = now ≡ before
PutCause (put.Failed taken) before now = Rose before now
PutCause put.Memory before now = now ≡ before

-- the count of faults after an answer, where each failure is counted once
abbrev pub faults_after : Put → ℕ → ℕ
faults_after put.All faults = faults
faults_after (put.Failed taken) faults = one_more faults
faults_after put.Memory faults = faults
