-- The whole lines of bytes, and that those at the front of sound lines are sound.
use Rattle.std.specs.Prelude.{◌≡◌, refl, ℕ, ◌==◌, if◌then◌else◌, List, [], ◌∷◌, ◌++◌, codes}
use Rattle.sg_journal.specs.declared.lines.Link.{Link}
use Rattle.sg_journal.specs.declared.lines.Line.{Line}
use Rattle.sg_journal.specs.Journal.{Rooms}
use Rattle.sg_journal.specs.Lines.{lines_text, end_line}
use Rattle.sg_audit.specs.declared.verdict.Verdict.TheVariants.{Yes}
use Rattle.sg_audit.specs.Auditing.{audited_in}
use Rattle.sg_audit.specs.AuditLaws.{AreSoundLines}

-- a byte before whole lines; where there are none it is a line only if it is the newline, which is 10
abbrev pub before_whole : ℕ → List ℕ → List ℕ
before_whole byte [] = if byte == 10 then byte ∷ [] else []
before_whole byte (next ∷ later) = byte ∷ (next ∷ later)

-- the lines of bytes that end in their newline: what stands behind the last newline is left out
abbrev pub whole_lines : List ℕ → List ℕ
whole_lines [] = []
whole_lines (byte ∷ bytes) = before_whole byte (whole_lines bytes)

-- where bytes are the front of the text of sound lines, the audit of the whole ones with the end is Yes
abbrev pub FrontsAreSound : Type 0
FrontsAreSound = (rooms : Rooms) (lines : List Line) (held : List Link) (front back : List ℕ) → AreSoundLines rooms lines held →
    lines_text lines ≡ front ++ back → audited_in rooms (whole_lines front ++ end_line) ≡ Yes

-- ---- examples

two_whole : whole_lines (codes "end\n\ntake 0") ≡ codes "end\n\n"
two_whole = refl

none_whole : whole_lines (codes "take 0 1") ≡ []
none_whole = refl
