-- A line of an audit, by what is held before it.
use Rattle.std.specs.Prelude.{◌≡◌, ℕ, suc, List, ◌∷◌, Option, Some, None}
use Rattle.sg_journal.specs.declared.lines.Link.{Link}
use Rattle.sg_journal.specs.Journal.{Rooms}
use Rattle.sg_audit.specs.declared.reading.Entry.{Entry}
use Rattle.sg_audit.specs.declared.verdict.Verdict.{Verdict}
use Rattle.sg_audit.specs.declared.table.NodeTable.{NodeTable}
use Rattle.sg_audit.specs.Auditing.{verdict_from}
use Rattle.sg_audit.specs.steps.Tables.{Stand}

-- the verdict is given, or it is that of the lines behind this one, from what is held after it
abbrev pub Steps : Rooms → List Link → List (List NodeTable) → ℕ → Entry → List Entry → Option Verdict → Type 0
Steps rooms held now line entry later (Some verdict) = verdict_from rooms line held (entry ∷ later) ≡ verdict
Steps rooms held now line entry later None =
    (next : List Link) × Stand rooms next now × (verdict_from rooms line held (entry ∷ later) ≡ verdict_from rooms (suc line) next later)

abbrev pub StepsFrom : List (List NodeTable) → List (List NodeTable) → ℕ → Entry → List Entry → Option Verdict → Type 0
StepsFrom old now line entry later verdict = (rooms : Rooms) (held : List Link) → Stand rooms held old → Steps rooms held now line entry later verdict
