-- What follows from the clauses and the meaning of a run.
use Rattle.std.specs.Prelude.{◌≡◌, ◌≢◌, ℕ, List, [], None}
use Rattle.sg_outside.specs.Counts.{Rose}
use Rattle.sg_outside.specs.Files.{Bytes}
use Rattle.sg_lexer.specs.Limits.{most_file_bytes}
use Rattle.sparsegrid.specs.declared.words.Mode.TheVariants as mode
use Rattle.sparsegrid.specs.Generated.{generated_text}
use Rattle.sparsegrid.specs.declared.showing.Showing.{Showing}
use Rattle.sparsegrid.specs.Words.{Asked, performs, doing}
use Rattle.sparsegrid.specs.Meaning.{Meaning, Readings, asking_for, meaning_of_asked}
use Rattle.sparsegrid.specs.Outcome.{Outside, HasWholeText, WroteMeaning, ReadFaults, PutFaults}

-- if neither count of faults rose and memory didn't run out, a run wrote the whole of what it means
abbrev pub FaultlessIsWhole : Type 0
FaultlessIsWhole = (words : List (List ℕ)) (opened : List ℕ) (before after : Outside) (status : ℕ)
    → (HasWholeText status → WroteMeaning words opened None before after status) → ReadFaults before after status → PutFaults before after status
    → ¬ Rose before.failed_reads after.failed_reads → ¬ Rose before.failed_puts after.failed_puts → status ≢ 9
    → WroteMeaning words opened None before after status

-- the generated program of a number means what a file with its text means, but that no file is asked for
abbrev pub GeneratedIsText : Type 0
GeneratedIsText = (workers number : ℕ) (file : List ℕ) (readings : Readings) → readings 1 file most_file_bytes ≡ Bytes (generated_text number)
    → meaning_of_asked (record { workers = workers; mode = mode.Run; file = file; from = None; bindings = []; number = 0 }) readings
    ≡ asking_for file (meaning_of_asked (record { workers = workers; mode = mode.Gen; file = []; from = None; bindings = []; number = number }) readings)

-- two meanings end alike: their statuses are the same, and their last states, and where not all is done their last lines
pub record EndAlike (m other : Meaning) : Type 0 where
  pub status : m.status ≡ other.status
  pub last : m.last ≡ other.last
  pub line : m.status ≢ 0 → m.line ≡ other.line

-- a run whose mode performs the commands and shows something of that, as an image, advice or a journal, ends as the same one in mode run
abbrev pub ShownEndsAsRun : Type 0
ShownEndsAsRun = (asked : Asked) (readings : Readings) (what : Showing) → doing asked.mode ≡ performs what
    → EndAlike (meaning_of_asked asked readings) (meaning_of_asked (record { workers = asked.workers; mode = mode.Run; file = asked.file; from = asked.from; bindings = asked.bindings; number = asked.number }) readings)
