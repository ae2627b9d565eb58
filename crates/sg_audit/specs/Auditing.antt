-- The verdict on bytes as a journal: followed from nothing held, line by line.
use Rattle.std.specs.Prelude.{ℕ, suc, List, [], ◌∷◌, Option, Some, None}
use Rattle.sg_layout.specs.declared.shape.Shape.{Shape}
use Rattle.sg_journal.specs.declared.lines.Link.{Link}
use Rattle.sg_journal.specs.Journal.{Rooms, follow}
use Rattle.sg_journal.specs.Rooms.{rooms_of}
use Rattle.sg_audit.specs.declared.reading.Entry.{Entry}
use Rattle.sg_audit.specs.declared.reading.Entry.TheVariants.{Written, End, Bad}
use Rattle.sg_audit.specs.declared.verdict.Verdict.{Verdict}
use Rattle.sg_audit.specs.declared.verdict.Verdict.TheVariants.{Yes, No}
use Rattle.sg_audit.specs.Reading.{entries_of}

-- go on from what is held, if a line was sound
abbrev pub if_sound : Option (List Link) → (List Link → Verdict) → Verdict → Verdict
if_sound None go_on refused = refused
if_sound (Some held) go_on refused = go_on held

-- the verdict on the lines from the one with this number on, where so much is held: No at a missing line, at a bad or unended one, at
-- one that isn't sound, and at a line behind the end
abbrev pub verdict_from : Rooms → ℕ → List Link → List Entry → Verdict
verdict_from rooms line held [] = No line
verdict_from rooms line held (Bad ∷ later) = No line
verdict_from rooms line held (End ∷ []) = Yes
verdict_from rooms line held (End ∷ (next ∷ later)) = No (suc line)
verdict_from rooms line held (Written written ∷ later) =
    if_sound (follow rooms held written) (λ next. verdict_from rooms (suc line) next later) (No line)

-- the verdict on bytes over layouts with these rooms
abbrev pub audited_in : Rooms → List ℕ → Verdict
audited_in rooms bytes = verdict_from rooms 1 [] (entries_of bytes)

-- and over layouts of these shapes
abbrev pub audited : List Shape → List ℕ → Verdict
audited shapes bytes = audited_in (rooms_of shapes) bytes
