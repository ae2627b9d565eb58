-- What a run does to the outside: what its files and its sink tell before it and after it, and how it ends.
use Rattle.std.specs.Prelude.{◌≡◌, ◌≢◌, ℕ, ◌-◌, ◌<◌, ◌≤◌, ◌⊎◌, Bool, true, false, if◌then◌else◌, List, [], ◌∷◌, ◌++◌, Option, Some, None, option_map, IsSome, refl}
use Rattle.std.specs.Option.{IsSomeAnd}
use Rattle.std.specs.Result.{IsOkAnd}
use Rattle.sg_outside.specs.Counts.{Rose, one_more, last_count}
use Rattle.sg_outside.specs.Files.{Held, Reading, Bytes, reading}
use Rattle.sg_outside.specs.Sink.{followed_by}
use Rattle.sg_outside.specs.declared.files.Files as files_of
use Rattle.sg_outside.specs.declared.sink.Sink as sink_of
use Rattle.sg_flat.specs.declared.state.FlatState.{FlatState}
use Rattle.sg_exec.specs.Standing.{StandForState}
use Rattle.sg_lexer.specs.Limits.{most_file_bytes}
use Rattle.sg_session.specs.Performed.{SessionParts}
use Rattle.sg_session.specs.Compiled.{Compiles}
use Rattle.sg_session.specs.Compiling.{compiled_program}
use Rattle.sg_session.specs.Texts.{lower_text}
use Rattle.sparsegrid.specs.Words.{Asked, good_words, is_gen}
use Rattle.sparsegrid.specs.Generated.{generated_text}
use Rattle.sparsegrid.specs.Moves.{Move, WritesText, names_in, pieces_in, text_in}
use Rattle.sparsegrid.specs.Meaning.{Meaning, Readings, moves_of, meaning, meaning_by, asks_code, with_open}

-- what a sink tells at one moment: the bytes that were written so far, and the pieces that were put whole, in order, where these are told
pub record Output : Type 0 where
  pub written : Option (List ℕ)
  pub pieces : Option (List (List ℕ))

-- what files and a sink tell at one moment
pub record Outside : Type 0 where
  -- the files by name, and the names that were read so far in order, where these are told
  pub held : Option Held
  pub asked : Option (List (List ℕ))
  -- how many reads there were, and how many of them failed
  pub reads : ℕ
  pub failed_reads : ℕ
  -- what was written so far, and how many puts failed
  pub output : Output
  pub failed_puts : ℕ

-- what this sink tells of what was written
abbrev pub output_of : {S : Type 0} → sink_of.Ghosts S → S → Output
output_of of_sink out = record { written = of_sink.has out; pieces = of_sink.pieces out }

-- what these files and this sink tell
abbrev pub outside_of : {F S : Type 0} → files_of.Ghosts F → sink_of.Ghosts S → F → S → Outside
outside_of of_files of_sink files out = record {
  held = of_files.holds files;
  asked = of_files.asked files;
  reads = of_files.reads files;
  failed_reads = of_files.faults files;
  output = output_of of_sink out;
  failed_puts = of_sink.faults out;
}

-- what was told so far, with more of it; if nothing is told, nothing is
abbrev pub told_more : Option (List (List ℕ)) → List (List ℕ) → Option (List (List ℕ))
told_more told more = option_map (λ before. before ++ more) told

-- a kept count after one more for each of these names: it stays at its last value
abbrev pub counted_more : ℕ → List (List ℕ) → ℕ
counted_more count [] = count
counted_more count (name ∷ names) = counted_more (one_more count) names

counted_to_the_last : counted_more (last_count - 1) ([] ∷ [] ∷ []) ≡ last_count
counted_to_the_last = refl

-- ---- the statuses

-- a status with which the whole text of the meaning without a failed read was written
abbrev pub HasWholeText : ℕ → Type 0
HasWholeText status = (status ≢ 2) × (status ≢ 3) × (status ≢ 9)

-- a status with which a run was cut short: a put failed, or memory ran out
abbrev pub IsCutShort : ℕ → Type 0
IsCutShort status = (status ≡ 3) ⊎ (status ≡ 9)

-- a status with which a run came to its end
abbrev pub IsEnding : ℕ → Type 0
IsEnding status = (status ≢ 3) × (status ≢ 9)

-- a status with which a run leaves a session: all done, or a refused run of a command
abbrev pub HasSession : ℕ → Type 0
HasSession status = (status ≡ 0) ⊎ (status ≡ 7)

-- with these statuses a session is left, and else only where the words ask for access code and the put of its text failed
pub record LeavesSession (words : List (List ℕ)) (status : ℕ) (session : Option SessionParts) : Type 0 where
  pub kept : HasSession status → IsSome session
  pub only : IsSome session → HasSession status ⊎ ((status ≡ 3) × (asks_code (good_words words) ≡ true))

-- the text of the access code of the session that a run leaves, if any
abbrev pub code_in : Option SessionParts → List ℕ
code_in None = []
code_in (Some session) = lower_text session.compiled.names session.compiled.kernels

-- the text that a meaning leaves open, of a run that leaves this session: that of its access code where the words ask for it
abbrev pub open_text : List (List ℕ) → Option SessionParts → List ℕ
open_text words session = if asks_code (good_words words) then code_in session else []

-- ---- what was written and read

-- the output grew by the texts of these moves, each put whole, and then by a part of a further text
pub record Grew (moves : List Move) (part : List ℕ) (old new : Output) : Type 0 where
  pub written : new.written ≡ followed_by old.written (text_in moves ++ part)
  pub pieces : new.pieces ≡ told_more old.pieces (pieces_in moves)

-- just these moves were made, each whole, and then a part of a further text was written
pub record Made (moves : List Move) (part : List ℕ) (before after : Outside) : Type 0 where
  pub output : Grew moves part before.output after.output
  pub asked : after.asked ≡ told_more before.asked (names_in moves)
  pub reads : after.reads ≡ counted_more before.reads (names_in moves)

-- the output stays as it was
pub record StaysWritten (old new : Output) : Type 0 where
  pub written : new.written ≡ old.written
  pub pieces : new.pieces ≡ old.pieces

-- ---- the whole of what is meant

-- all moves of the meaning were made, and the status is its status
pub record Wrote (m : Meaning) (before after : Outside) (answer : ℕ) : Type 0 where
  pub made : Made (moves_of m) [] before after
  pub status : answer ≡ m.status

-- A run with these words did what it means, where the read of the given number fails, if any; `opened` is the text that the meaning leaves open.
abbrev pub WroteMeaning : List (List ℕ) → List ℕ → Option ℕ → Outside → Outside → ℕ → Type 0
WroteMeaning words opened stop before after status =
    (held : Held) → before.held ≡ Some held → Wrote (with_open words opened (meaning words held stop)) before after status

-- it did what it means where its last read fails
abbrev pub WroteStopped : List (List ℕ) → List ℕ → Outside → Outside → ℕ → Type 0
WroteStopped words opened before after status =
    after.reads < last_count → WroteMeaning words opened (Some (after.reads - before.reads)) before after status

-- ---- a front of what is meant

-- the next of these moves is to write a text, of which this is a part that isn't the whole
pub record BeginsNext (part : List ℕ) (left : List Move) : Type 0 where
  pub text : List ℕ
  pub missing : List ℕ
  pub rest : List Move
  pub next : left ≡ WritesText text ∷ rest
  pub whole : text ≡ part ++ missing
  pub less : missing ≢ []

-- These moves are the first of those that a meaning makes. With status 3 the next is to write a text, the put of which failed. With every other
-- status no text was written in part, and with 9 some of the text is missing where it ends in a last line.
pub record IsFront (m : Meaning) (done : List Move) (part : List ℕ) (answer : ℕ) : Type 0 where
  pub left : List Move
  pub whole : moves_of m ≡ done ++ left
  pub failed : answer ≡ 3 → BeginsNext part left
  pub other : answer ≢ 3 → part ≡ []
  pub less : answer ≡ 9 → m.line ≢ [] → text_in left ≢ []

-- a front of the moves of a meaning was made
pub record WentAFront (m : Meaning) (before after : Outside) (answer : ℕ) : Type 0 where
  pub done : List Move
  pub part : List ℕ
  pub front : IsFront m done part answer
  pub made : Made done part before after

-- a run went along a front of what it means; only where a read failed it may be what it means where its last read fails
abbrev pub WroteFront : List (List ℕ) → List ℕ → Outside → Outside → ℕ → Type 0
WroteFront words opened before after status =
    (held : Held) → before.held ≡ Some held →
    WentAFront (with_open words opened (meaning words held None)) before after status
    ⊎ (Rose before.failed_reads after.failed_reads
    × (after.reads < last_count → WentAFront (with_open words opened (meaning words held (Some (after.reads - before.reads)))) before after status))

-- ---- whatever the files tell

-- a run ended as it means where its reads give some readings
abbrev pub EndsAs : List (List ℕ) → List ℕ → Outside → Outside → ℕ → Type 0
EndsAs words opened before after status = (readings : Readings) × Wrote (with_open words opened (meaning_by words readings)) before after status

-- a run made a front of the moves that it means to make, where its reads give some readings
abbrev pub AsksAs : List (List ℕ) → List ℕ → Outside → Outside → ℕ → Type 0
AsksAs words opened before after status = (readings : Readings) × WentAFront (with_open words opened (meaning_by words readings)) before after status

-- ---- the faults: none is made up, passed over or forgotten

-- with status 2 a read failed, and with a whole text none did
pub record ReadFaults (before after : Outside) (answer : ℕ) : Type 0 where
  pub rose : answer ≡ 2 → Rose before.failed_reads after.failed_reads
  pub stay : HasWholeText answer → after.failed_reads ≡ before.failed_reads
  pub never_fall : before.failed_reads ≤ after.failed_reads

-- with status 3 a put failed, and with every other none did
pub record PutFaults (before after : Outside) (answer : ℕ) : Type 0 where
  pub rose : answer ≡ 3 → Rose before.failed_puts after.failed_puts
  pub stay : answer ≢ 3 → after.failed_puts ≡ before.failed_puts
  pub never_fall : before.failed_puts ≤ after.failed_puts

-- ---- the reads

-- for a generated program there is no read, and for a file there is one at least where a run came to its end
abbrev pub CountOf : Bool → Outside → Outside → ℕ → Type 0
CountOf true before after status = after.reads ≡ before.reads
CountOf false before after status = IsEnding status → Rose before.reads after.reads

-- with bad words there is no read
abbrev pub ReadCount : Option Asked → Outside → Outside → ℕ → Type 0
ReadCount None before after status = after.reads ≡ before.reads
ReadCount (Some asked) before after status = CountOf (is_gen asked.mode) before after status

-- ---- the session

-- the bytes of the program that good words ask for: the generated text, or those that the file holds
abbrev pub source_of : Asked → Held → Reading
source_of asked held = if is_gen asked.mode then Bytes (generated_text asked.number) else reading held asked.file most_file_bytes

-- A session is of the program of what good words ask for: it is what the program of the named file is compiled to, or the generated one. So its
-- kernels are well typed and apt for its layouts, and have the effects of that program's kernels, one for one and in order.
abbrev pub IsOfAsked : Asked → Held → SessionParts → Type 0
IsOfAsked asked held session = (bytes : List ℕ) × (source_of asked held ≡ Bytes bytes) × IsOkAnd (compiled_program bytes) (λ program. Compiles program session.compiled)

-- words are good, and a session is of the program of what they ask for
abbrev pub IsOfFile : List (List ℕ) → Held → SessionParts → Type 0
IsOfFile words held session = IsSomeAnd (good_words words) (λ asked. IsOfAsked asked held session)

-- the stores of a session are those of its layouts, and stand for the last state
abbrev pub StandsForLast : Option FlatState → SessionParts → Type 0
StandsForLast last session = IsSomeAnd last (StandForState session.compiled.layouts session.stores)
