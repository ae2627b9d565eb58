-- What a stage of the code finds at the front of a slice, against the stage of the definition.
use Rattle.std.specs.Prelude.{◌≡◌, ◌≤◌, ℕ, ◌+◌, min, Bool, not, ◌==◌, List, [], ◌∷◌, ◌++◌, length, Option, Some, None}
use Rattle.std.specs.List.{prefix_len}
use denote.Ref.{Bor}
use Rattle.sg_audit.specs.Reading.{texts_of}

-- the same is found, and the same is left
abbrev pub Finds : {A : Type 0} → Option (A × Bor (List ℕ)) → Option (A × List ℕ) → Type 0
Finds None meaning = meaning ≡ None
Finds (Some found) meaning = meaning ≡ Some (found.0, found.1.now)

-- the same is left
abbrev pub Leaves : Option (Bor (List ℕ)) → Option (List ℕ) → Type 0
Leaves None meaning = meaning ≡ None
Leaves (Some rest) meaning = meaning ≡ Some rest.now

-- a byte other than a newline
abbrev pub is_in_line : ℕ → Bool
is_in_line byte = not (byte == 10)

-- how many bytes stand up to the first newline, with it if it is there
abbrev pub end_of : List ℕ → ℕ
end_of bytes = min (prefix_len is_in_line bytes + 1) (length bytes)

-- the first line is cut off, if there are bytes
abbrev pub CutsFirst : List ℕ → Option (Bor (List ℕ) × Bor (List ℕ)) → Type 0
CutsFirst bytes None = bytes ≡ []
CutsFirst bytes (Some cut) = (texts_of bytes ≡ cut.0.now ∷ texts_of cut.1.now) × (bytes ≡ cut.0.now ++ cut.1.now) × (1 ≤ length cut.0.now)
