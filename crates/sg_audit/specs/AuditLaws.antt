-- What the verdict means.
use Rattle.std.specs.Prelude.{◌≡◌, ◌≢◌, ◌↔◌, ◌⊎◌, ℕ, suc, List, [], ◌++◌, length, take, Some, None, All}
use Rattle.sg_journal.specs.declared.lines.Link.{Link}
use Rattle.sg_journal.specs.declared.lines.Line.{Line}
use Rattle.sg_journal.specs.Journal.{Rooms, follow, held_after}
use Rattle.sg_journal.specs.Lines.{line_text, lines_text, end_line, journal_text, IsInRange}
use Rattle.sg_journal.specs.LineLaws.{HoldsOnce}
use Rattle.sg_audit.specs.declared.verdict.Verdict.TheVariants.{Yes, No}
use Rattle.sg_audit.specs.Auditing.{audited_in}

-- lines that are sound from nothing held, with what is held after them
pub record AreSoundLines (rooms : Rooms) (lines : List Line) (held : List Link) : Type 0 where
  pub in_range : All IsInRange lines
  pub sound : held_after rooms [] lines ≡ Some held

-- Yes exactly if the bytes are a journal whose every line is sound
pub record IsSoundJournal (rooms : Rooms) (bytes : List ℕ) : Type 0 where
  pub lines : List Line
  pub held : List Link
  pub sound : AreSoundLines rooms lines held
  pub text : bytes ≡ journal_text lines

abbrev pub YesIsSound : Type 0
YesIsSound = (rooms : Rooms) (bytes : List ℕ) → (audited_in rooms bytes ≡ Yes) ↔ IsSoundJournal rooms bytes

-- behind lines there is neither a sound one nor the end alone
pub record NoneFollows (rooms : Rooms) (held : List Link) (rest : List ℕ) : Type 0 where
  pub line : (line : Line) (later : List ℕ) → IsInRange line → rest ≡ line_text line ++ later → follow rooms held line ≡ None
  pub end : (later : List ℕ) → rest ≢ end_line ++ later

-- the line with this number is the first that isn't sound: it comes behind sound lines, or behind the end
pub record IsFirstUnsound (rooms : Rooms) (bytes : List ℕ) (line : ℕ) : Type 0 where
  pub lines : List Line
  pub held : List Link
  pub rest : List ℕ
  pub sound : AreSoundLines rooms lines held
  pub is :
      ((line ≡ suc (length lines)) × (bytes ≡ lines_text lines ++ rest) × NoneFollows rooms held rest)
      ⊎ ((line ≡ suc (suc (length lines))) × (bytes ≡ lines_text lines ++ end_line ++ rest) × (rest ≢ []))

abbrev pub NoIsFirst : Type 0
NoIsFirst = (rooms : Rooms) (bytes : List ℕ) (line : ℕ) → audited_in rooms bytes ≡ No line → IsFirstUnsound rooms bytes line

-- a Yes holds once: after each line each number stands in at most one slot, and each slot holds at most one number
pub record HoldsOnceThroughout (rooms : Rooms) (bytes : List ℕ) : Type 0 where
  pub lines : List Line
  pub text : bytes ≡ journal_text lines
  pub each : (k : ℕ) → (held : List Link) × (held_after rooms [] (take k lines) ≡ Some held) × HoldsOnce held

abbrev pub YesHoldsOnce : Type 0
YesHoldsOnce = (rooms : Rooms) (bytes : List ℕ) → audited_in rooms bytes ≡ Yes → HoldsOnceThroughout rooms bytes
