-- What ties bytes, numbers and parts.
use Rattle.std.specs.Prelude.{◌≡◌, ℕ, ◌<◌, ◌^◌, List, ◌∷◌, All, Some, length}
use Rattle.sg_snapshot.specs.declared.part.Part.{Part}
use Rattle.sg_snapshot.specs.Numbers.{bytes_of, numbers_of}
use Rattle.sg_snapshot.specs.Parts.{Frame, AreParts, parts_numbers, parts_bytes, parts_in}

-- the bytes of numbers are read as these numbers
abbrev pub BytesOfNumbers : Type 0
BytesOfNumbers = (numbers : List ℕ) → All (λ number. number < 2 ^ 32) numbers → numbers_of (bytes_of numbers) ≡ Some numbers

-- bytes that are read as numbers are theirs
abbrev pub NumbersOfBytes : Type 0
NumbersOfBytes = (bytes numbers : List ℕ) → All (λ byte. byte < 256) bytes → numbers_of bytes ≡ Some numbers → bytes_of numbers ≡ bytes

-- the bytes of parts are read as these parts
abbrev pub PartsOfBytes : Type 0
PartsOfBytes = (frames : List Frame) (parts : List Part) → AreParts frames parts → All (λ number. number < 2 ^ 32) (length parts ∷ parts_numbers parts) → parts_in frames (parts_bytes parts) ≡ Some parts

-- bytes that are read as parts are theirs, and the parts are such of the layouts
abbrev pub BytesOfParts : Type 0
BytesOfParts = (frames : List Frame) (parts : List Part) (bytes : List ℕ) → All (λ byte. byte < 256) bytes → parts_in frames bytes ≡ Some parts
    → AreParts frames parts × (parts_bytes parts ≡ bytes)
