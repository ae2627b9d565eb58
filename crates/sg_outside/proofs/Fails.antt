-- Which reads of a `MemFiles` fail.
use Rattle.std.proofs.Common.{◌≡◌, ℕ, Bool, true, false, List, Option, Some, None, ◌⊎◌, ◌↔◌, inl, inr, refl, if◌then◌else◌, nat_le, length}
use Rattle.sg_outside.specs.declared.files.Got.{Got}
use Rattle.sg_outside.specs.declared.files.Got.TheVariants as got
use Rattle.sg_outside.specs.Files.{Reading, Bytes, TooMany, Missing, reading_at}
use Rattle.sg_outside.specs.MemFiles.{ReadsExactly}

-- an answer that is exactly a read's meaning is a failure just when there is no file
fails_at : (answer : Got) (bytes : List ℕ) (room : ℕ) (meaning : Reading) → ReadsExactly answer bytes room meaning → (answer ≡ got.Failed) ↔ (meaning ≡ Missing)
fails_at got.All bytes room meaning e = (λ f. absurd (cc), λ m. absurd (cc))
fails_at got.TooLong bytes room meaning e = (λ f. absurd (cc), λ m. absurd (cc))
fails_at got.Failed bytes room meaning e = (λ f. e, λ m. refl)
fails_at got.Memory bytes room (Bytes xs) e = (λ f. absurd (cc), λ m. absurd (cc))
fails_at got.Memory bytes room TooMany e = absurd e
fails_at got.Memory bytes room Missing e = absurd e

-- a file's reading is not the reading of no file
reading_at-Some : (xs : List ℕ) (limit : ℕ) (fits : Bool) → (if fits then Bytes xs else TooMany) ≡ Missing → ⊥
reading_at-Some xs limit true e = cc
reading_at-Some xs limit false e = cc

-- the meaning is that of no file just when the read is listed or the name is absent
missing_at : (listed : Bool) (found : Option (List ℕ)) (limit : ℕ) → ((if listed then Missing else reading_at found limit) ≡ Missing) ↔ ((listed ≡ true) ⊎ (found ≡ None))
missing_at true found limit = (λ _. inl refl, λ _. refl)
missing_at false None limit = (λ _. inr refl, λ _. refl)
missing_at false (Some xs) limit =
    (λ e. absurd (reading_at-Some xs limit (nat_le (length xs) limit) e), λ w. elim w [ inl e ↦ absurd (cc) | inr e ↦ absurd (cc) ])

pub fails_just : (answer : Got) (bytes : List ℕ) (room : ℕ) (listed : Bool) (found : Option (List ℕ)) (limit : ℕ) → ReadsExactly answer bytes room (if listed then Missing else reading_at found limit) → (answer ≡ got.Failed) ↔ ((listed ≡ true) ⊎ (found ≡ None))
fails_just answer bytes room listed found limit exact =
    let failed = fails_at answer bytes room _ exact in
    let missing = missing_at listed found limit in
    (λ f. missing.0 (failed.0 f), λ w. failed.1 (missing.1 w))
