use Rattle.std.specs.Prelude.{◌≡◌, ℕ, ◌≤◌, List, [], ◌∷◌, ◌++◌, length, Option, Some, None, option_map, nat_le, if◌then◌else◌, refl}
use Rattle.std.specs.Ordering.{nat_cmp}
use Rattle.std.specs.Cmp.Lexicographic.{slice_cmp}
use Rattle.std.specs.FinMap.{FinMap, get}
use Rattle.sg_outside.specs.declared.files.Got.{Got}
use Rattle.sg_outside.specs.declared.files.Got.TheVariants as got
use Rattle.sg_outside.specs.Counts.{one_more, Rose}

-- the files that an outside has: bytes by name
abbrev pub Held : Type 0
Held = FinMap (slice_cmp nat_cmp) (List ℕ)

-- what a read means: the file's bytes, more bytes than the limit, or no file of this name
pub data Reading : Type 0 where
  Bytes : List ℕ → Reading
  TooMany : Reading
  Missing : Reading

-- what a read of this file means under a limit on its bytes
abbrev pub reading_at : Option (List ℕ) → ℕ → Reading
reading_at None limit = Missing
reading_at (Some bytes) limit = if nat_le (length bytes) limit then Bytes bytes else TooMany

reading_at_limit : reading_at (Some (7 ∷ 8 ∷ [])) 2 ≡ Bytes (7 ∷ 8 ∷ [])
reading_at_limit = refl

reading_past_limit : reading_at (Some (7 ∷ 8 ∷ [])) 1 ≡ TooMany
reading_past_limit = refl

reading_of_empty : reading_at (Some []) 0 ≡ Bytes []
reading_of_empty = refl

-- what a read of this name means
abbrev pub reading : Held → List ℕ → ℕ → Reading
reading held name limit = reading_at (get held name) limit

-- an answer about the bytes is the meaning of the read; `bytes` is what the read left in its buffer
abbrev pub Reads : Got → List ℕ → Reading → Type 0
Reads got.All bytes meaning = meaning ≡ Bytes bytes
Reads got.TooLong bytes meaning = meaning ≡ TooMany
Reads got.Failed bytes meaning = Unit {0}
Reads got.Memory bytes meaning = Unit {0}

reads_all : Reads got.All (7 ∷ 8 ∷ []) (reading_at (Some (7 ∷ 8 ∷ [])) 2)
reads_all = refl

reads_too_long : Reads got.TooLong [] (reading_at (Some (7 ∷ 8 ∷ [])) 1)
reads_too_long = refl

-- the bytes of a whole file are at most the limit
abbrev pub FitsLimit : Got → List ℕ → ℕ → Type 0
FitsLimit got.All bytes limit = length bytes ≤ limit
FitsLimit got.TooLong bytes limit = Unit {0}
FitsLimit got.Failed bytes limit = Unit {0}
FitsLimit got.Memory bytes limit = Unit {0}

-- the count of faults rose where the read failed, and stays at every other answer
abbrev pub ReadCause : Got → ℕ → ℕ → Type 0
ReadCause got.All before now = now ≡ before
ReadCause got.TooLong before now = now ≡ before
ReadCause got.Failed before now = Rose before now
ReadCause got.Memory before now = now ≡ before

-- the names that were read so far, in order, with one more; if nothing is told, nothing is
abbrev pub asked_too : Option (List (List ℕ)) → List ℕ → Option (List (List ℕ))
asked_too asked name = option_map (λ names. names ++ name ∷ []) asked

asked_a_second : asked_too (Some ((1 ∷ []) ∷ [])) (2 ∷ []) ≡ Some ((1 ∷ []) ∷ (2 ∷ []) ∷ [])
asked_a_second = refl

-- the count of faults after an answer, where each failure is counted once
abbrev pub faults_after : Got → ℕ → ℕ
faults_after got.All faults = faults
faults_after got.TooLong faults = faults
faults_after got.Failed faults = one_more faults
faults_after got.Memory faults = faults
