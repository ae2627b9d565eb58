-- What a run does in mode journal. Which numbers are drawn is open, so that the parts of its journal are: some are there, of which all of this holds.
use Rattle.std.specs.Prelude.{◌≡◌, ℕ, ◌-◌, ◌<◌, ◌⊎◌, List, [], ◌++◌, length, take, Option, Some, None}
use Rattle.std.specs.Option.{IfSome}
use Rattle.sg_outside.specs.Counts.{Rose, last_count}
use Rattle.sg_outside.specs.Files.{Held}
use Rattle.sg_layout.specs.declared.shape.Shape.{Shape}
use Rattle.sg_journal.specs.Lines.{lines_text, end_line}
use Rattle.sg_audit.specs.declared.verdict.Verdict.TheVariants.{Yes}
use Rattle.sg_audit.specs.Auditing.{audited}
use Rattle.sg_audit.specs.WholeLines.{whole_lines}
use Rattle.sg_session.specs.Performed.{SessionParts}
use Rattle.sparsegrid.specs.Moves.{reached_in, text_in}
use Rattle.sparsegrid.specs.Parts.{Parts, lines_in, with_parts, AreSoundParts, AreOver, IsAudited, HoldsStores}
use Rattle.sparsegrid.specs.Meaning.{Meaning, Readings, said, meaning, meaning_by}
use Rattle.sparsegrid.specs.Outcome.{Outside, HasWholeText, IsCutShort, IsEnding, Wrote, WentAFront}

-- a meaning with the parts of a journal: its last line, status and last state stay
abbrev pub with_journal : Parts → Meaning → Meaning
with_journal parts m = record { moves = with_parts parts m.moves; line = m.line; status = m.status; last = m.last }

-- The parts are a journal of what a run means that came to its end, and which leaves this session: they are sound, one for each state that is
-- reached, the audit of all is Yes, and with a session what is held is what stands in its stores.
pub record IsJournalOf (m : Meaning) (parts : Parts) (session : Option SessionParts) : Type 0 where
  pub each : AreSoundParts [] parts (reached_in m.moves)
  pub audit : IsAudited parts (reached_in m.moves)
  pub holds : IfSome session (λ left. HoldsStores left.compiled.layouts parts left.stores)

-- a run did what this means with these parts, they are its journal, and before its last line just their lines were written
pub record JournalWrote (parts : Parts) (m : Meaning) (before after : Outside) (status : ℕ) (session : Option SessionParts) : Type 0 where
  pub wrote : Wrote (with_journal parts m) before after status
  pub journal : IsJournalOf m parts session
  pub text : said (with_journal parts m) ≡ lines_text (lines_in parts)

-- of what was written before a last line the whole lines, with the end behind them, are a journal whose audit is Yes
abbrev pub CutIsSound : Meaning → List ℕ → Type 0
CutIsSound m written = (shapes : List Shape) → AreOver shapes (reached_in m.moves) → audited shapes (whole_lines (take (length (said m)) written) ++ end_line) ≡ Yes

-- a run that was cut short went along a front of what this means with these parts, and what was written is sound so far
pub record WentSound (parts : Parts) (m : Meaning) (before after : Outside) (status : ℕ) : Type 0 where
  pub went : WentAFront (with_journal parts m) before after status
  pub sound : CutIsSound (with_journal parts m) (text_in went.done ++ went.part)

-- With the parts of a journal before the states that are reached, a run did what its words mean, which leave them open.
pub record KeepsJournal (words : List (List ℕ)) (before after : Outside) (status : ℕ) (session : Option SessionParts) : Type 0 where
  pub parts : Parts
  -- with any status but 2, 3 and 9
  pub whole : HasWholeText status → (held : Held) → before.held ≡ Some held → JournalWrote parts (meaning words held None) before after status session
  -- with status 2
  pub stopped : status ≡ 2 → after.reads < last_count → (held : Held) → before.held ≡ Some held →
      JournalWrote parts (meaning words held (Some (after.reads - before.reads))) before after status session
  -- with status 3 and 9
  pub front : IsCutShort status → (held : Held) → before.held ≡ Some held →
      WentSound parts (meaning words held None) before after status
      ⊎ (Rose before.failed_reads after.failed_reads
      × (after.reads < last_count → WentSound parts (meaning words held (Some (after.reads - before.reads))) before after status))
  -- whatever the files tell
  pub ended : IsEnding status → (readings : Readings) × JournalWrote parts (meaning_by words readings) before after status session
  pub cut : IsCutShort status → (readings : Readings) × WentSound parts (meaning_by words readings) before after status
