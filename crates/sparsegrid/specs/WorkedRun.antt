-- A worked run: what a file with a kernel means, from its bytes to its text and its status.
use Rattle.std.specs.Prelude.{◌≡◌, ℕ, List, [], ◌∷◌, Some, None, codes}
use Rattle.std.specs.FinMap.{get}
use Rattle.sg_outside.specs.Files.{Held}
use Rattle.sparsegrid.specs.Meaning.{text_meant, meaning}

-- a file whose kernel goes over 0, 1 and 2, and adds each of these to one value of a line of 8 points, of which blocks of 2 become active
abbrev pub inside_file : List ℕ
inside_file = codes "layout A(i) { pointer(i: 4) cap 2; dense(i: 2); field x: i32; }\nkernel k { for p in 0..3 { x[5] += p; } }\nrun k;\ndump x;\n"

-- the same, where the value would stand behind the last point
abbrev pub outside_file : List ℕ
outside_file = codes "layout A(i) { pointer(i: 4) cap 2; dense(i: 2); field x: i32; }\nkernel k { for p in 0..3 { x[8] += p; } }\nrun k;\ndump x;\n"

-- whatever other files there are, a run of `p.sg` with these bytes writes this text and ends with this status
abbrev pub RunsAs : List ℕ → List ℕ → ℕ → Type 0
RunsAs bytes text status = (held : Held) → get held (codes "p.sg") ≡ Some bytes
    → (text_meant (meaning (codes "p.sg" ∷ []) held None) ≡ text) × ((meaning (codes "p.sg" ∷ []) held None).status ≡ status)

-- the block that has 5 is active, and the sum stands there; a write outside is refused in the first iteration that makes one
abbrev pub WorkedRun : Type 0
WorkedRun = RunsAs inside_file (codes "grid 1 2\n4 0\n5 3\n") 0
    × RunsAs outside_file (codes "refused: write outside: kernel k statement 1 at 0\n") 7
