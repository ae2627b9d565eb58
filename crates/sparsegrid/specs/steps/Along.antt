-- What a part of a run does, whether it comes to its end or is cut short.
use Rattle.std.specs.Prelude.{◌≡◌, ◌≢◌, ℕ, suc, ◌+◌, ◌≤◌, ◌==◌, ◌⊎◌, ◌↔◌, Bool, true, ◌&&◌, if◌then◌else◌, List, [], ◌∷◌, ◌++◌, map, length, Option, Some, None, Result, Ok, Err, IfOk, IsSome}
use Rattle.std.specs.Option.{IfSome}
use Rattle.std.specs.List.{AllByRecursion}
use Rattle.sg_words.specs.declared.memory.Stop.{Stop}
use Rattle.sg_words.specs.declared.memory.Stop.TheVariants as stop
use Rattle.sg_outside.specs.Counts.{Rose}
use Rattle.sg_outside.specs.Files.{Held, Reading, Missing, reading}
use Rattle.sg_outside.specs.Sink.{followed_by}
use Rattle.sg_grid.specs.Limits.{most_grid_bytes}
use Rattle.sg_session.specs.Performed.{SessionParts}
use Rattle.sg_session.specs.declared.tasks.Task.{Task}
use Rattle.sg_session.specs.Compiled.{CheckedProgram, CompiledProgram}
use Rattle.sg_session.specs.Bindings.{Binding}
use Rattle.sg_flat.specs.declared.state.FlatState.{FlatState}
use Rattle.sg_store.specs.StoreWords.{StoreWords}
use Rattle.sg_exec.specs.Standing.{StandForState}
use Rattle.sparsegrid.specs.declared.output.PutFailed.{PutFailed}
use Rattle.sparsegrid.specs.declared.session.Done.{Done}
use Rattle.sparsegrid.specs.declared.last_line.LastLine.{LastLine}
use Rattle.sparsegrid.specs.Moves.{Move, pieces_of, names_in}
use Rattle.sparsegrid.specs.Telling.{Telling}
use Rattle.sparsegrid.specs.Meaning.{Meaning, Readings, moves_of, after_moves, meaning_of_tasks}
use Rattle.sparsegrid.specs.Outcome.{Output, StaysWritten, Outside, Made, IsFront, HasSession, StandsForLast, told_more, code_in}

-- ---- the sink

-- a text was written by one put, and an empty one by none
pub record PutsText (old new : Output) (text : List ℕ) : Type 0 where
  pub written : new.written ≡ followed_by old.written text
  pub pieces : new.pieces ≡ told_more old.pieces (pieces_of text)

-- the put of a text failed: a part of it was written that isn't the whole
pub record PutsPart (old new : Output) (text : List ℕ) : Type 0 where
  pub part : List ℕ
  pub missing : List ℕ
  pub written : new.written ≡ followed_by old.written part
  pub pieces : new.pieces ≡ old.pieces
  pub whole : text ≡ part ++ missing
  pub less : missing ≢ []

-- what a text that is put leaves: the whole of it, a part where the put failed, and nothing if memory ran out
abbrev pub Sends : {A : Type 0} → Result A (Stop PutFailed) → Output → Output → List ℕ → Type 0
Sends (Ok done) old new text = PutsText old new text
Sends (Err (stop.Refused failed)) old new text = PutsPart old new text
Sends (Err stop.Memory) old new text = StaysWritten old new

-- if memory ran out, the output stayed as it was
abbrev pub KeepsWritten : {A : Type 0} → Result A (Stop PutFailed) → Output → Output → Type 0
KeepsWritten (Ok done) old new = Unit {0}
KeepsWritten (Err (stop.Refused failed)) old new = Unit {0}
KeepsWritten (Err stop.Memory) old new = StaysWritten old new

-- the sink's count of faults rose, and didn't fall, where a put failed, and else stays
abbrev pub SendCause : {A : Type 0} → Result A (Stop PutFailed) → ℕ → ℕ → Type 0
SendCause (Ok done) old new = new ≡ old
SendCause (Err (stop.Refused failed)) old new = Rose old new × (old ≤ new)
SendCause (Err stop.Memory) old new = new ≡ old

-- ---- parts of a run that write

-- the status of a run that was cut short
abbrev pub cut_status : Stop PutFailed → ℕ
cut_status (stop.Refused failed) = 3
cut_status stop.Memory = 9

-- the status with which a run ends
abbrev pub status_of : Result Done (Stop PutFailed) → ℕ
status_of (Ok done) = done.status
status_of (Err why) = cut_status why

-- the session that a run leaves
abbrev pub session_of : Result Done (Stop PutFailed) → Option SessionParts
session_of (Ok done) = done.session
session_of (Err why) = None

-- if a session is left, it is one of which a fact holds
abbrev pub LeavesOnly : (SessionParts → Type 0) → Result Done (Stop PutFailed) → Type 0
LeavesOnly P result = IfOk result (λ done. IfSome done.session P)

-- if a session is left, it is one of this program
abbrev pub LeavesProgram : CompiledProgram → Result Done (Stop PutFailed) → Type 0
LeavesProgram compiled result = LeavesOnly (λ session. session.compiled ≡ compiled) result

-- the text of a last line
abbrev pub line_text : LastLine → List ℕ
line_text last = last.line ++ 10 ∷ []

-- how tasks ended that were performed on a session: their status, and the session
abbrev pub ended_with : SessionParts → Result ℕ (Stop PutFailed) → Result Done (Stop PutFailed)
ended_with session (Ok status) = Ok (record { status = status; session = Some session })
ended_with session (Err why) = Err why

-- a part of a run came to its end: these are all moves of the meaning, and the status and the last state are its own
pub record CameToEnd (m : Meaning) (did : List Move) (done : Done) : Type 0 where
  pub all : did ≡ moves_of m
  pub status : done.status ≡ m.status
  pub last : IfSome done.session (StandsForLast m.last)

-- what a part of a run did is what a meaning says: all of it, or where the run was cut short a front
abbrev pub Follows : Meaning → List Move → List ℕ → Result Done (Stop PutFailed) → Type 0
Follows m did part (Ok done) = CameToEnd m did done × (part ≡ [])
Follows m did part (Err why) = IsFront m did part (cut_status why)

-- ---- the reads of a part of a run

-- a read: the name of its file, the limit on its bytes, and what it gave
pub record ReadMade : Type 0 where
  pub name : List ℕ
  pub limit : ℕ
  pub given : Reading

-- the names of these reads
abbrev pub names_of : List ReadMade → List (List ℕ)
names_of made = map (λ read. read.name) made

-- the readings give what these reads gave, of which so many came before the first
abbrev pub Agree : Readings → ℕ → List ReadMade → Type 0
Agree readings before [] = Unit {0}
Agree readings before (read ∷ made) = (readings (suc before) read.name read.limit ≡ read.given) × Agree readings (suc before) made

-- each read gave what these files hold
abbrev pub AreTold : Held → List ReadMade → Type 0
AreTold held made = AllByRecursion (λ read. read.given ≡ reading held read.name read.limit) made

-- what the read of a file that may be there gave, in a load
abbrev pub load_reads : Option (List ℕ) → Reading → List ReadMade
load_reads None given = []
load_reads (Some name) given = record { name = name; limit = most_grid_bytes; given = given } ∷ []

-- no read of these failed, and where the files are told each gave what they hold
pub record NoneFailed (before after : Outside) (made : List ReadMade) : Type 0 where
  pub no_fault : after.failed_reads ≡ before.failed_reads
  pub told : (held : Held) → before.held ≡ Some held → AreTold held made

-- the last read failed, and no other
pub record LastFailed (before after : Outside) (made : List ReadMade) : Type 0 where
  pub fault : Rose before.failed_reads after.failed_reads
  pub earlier : List ReadMade
  pub last : ReadMade
  pub is : made ≡ earlier ++ last ∷ []
  pub missing : last.given ≡ Missing
  pub told : (held : Held) → before.held ≡ Some held → AreTold held earlier

-- no read failed, and the status isn't that of a failed read; or the last one failed, and the status is
abbrev pub ReadsEnd : Outside → Outside → List ReadMade → Result Done (Stop PutFailed) → Type 0
ReadsEnd before after made result =
    (NoneFailed before after made × IfOk result (λ done. done.status ≢ 2)) ⊎ (LastFailed before after made × IfOk result (λ done. done.status ≡ 2))

-- a part of a run, after so many reads, did what a meaning says that takes the readings: `made` are its reads, `did` its moves, and `part` is what
-- was written of a text whose put failed
pub record Went (m : Readings → Meaning) (earlier : ℕ) (before after : Outside) (result : Result Done (Stop PutFailed)) : Type 0 where
  pub made : List ReadMade
  pub did : List Move
  pub part : List ℕ
  pub names : names_in did ≡ names_of made
  pub grew : Made did part before after
  pub follows : (readings : Readings) → Agree readings earlier made → Follows (m readings) did part result
  pub ends : ReadsEnd before after made result

-- ---- performed tasks

-- so many tasks were performed, from a state on and after so many reads, up to these that are left: `made` are the reads, `did` are the moves, and
-- the stores stand for the state that is reached
pub record Came (program : CheckedProgram) (bindings : List Binding) (telling : Telling) (earlier : ℕ) (start : FlatState) (tasks : List Task)
    (number : ℕ) (rest : List Task) (stores : List StoreWords) (before now : Outside) : Type 0 where
  pub made : List ReadMade
  pub did : List Move
  pub state : FlatState
  pub stand : StandForState program.layouts stores state
  pub names : names_in did ≡ names_of made
  pub grew : Made did [] before now
  pub held : now.held ≡ before.held
  pub none : NoneFailed before now made
  pub is : (readings : Readings) → Agree readings earlier made
      → meaning_of_tasks program bindings telling readings 0 earlier start tasks
      ≡ after_moves did (meaning_of_tasks program bindings telling readings number (length made + earlier) state rest)

-- how a run that came to its end ended: not by a failed put or running out of memory, and with a session exactly when its status leaves one
abbrev pub IsEnd : Done → Type 0
IsEnd done = (done.status ≢ 3) × (done.status ≢ 9) × (IsSome done.session ↔ HasSession done.status)

-- ---- the text of access code

-- all is done, and the text of access code is asked for
pub record IsDue (lower : Bool) (done : Done) : Type 0 where
  pub asked : lower ≡ true
  pub all_done : done.status ≡ 0

-- the text of access code that is left to be written
abbrev pub code_left : Bool → Done → List ℕ
code_left lower done = if lower && (done.status == 0) then code_in done.session else []

-- How a run ended that has come this far: its text of code was written; or the put failed, and the session is left all the same; or memory ran
-- out, and nothing more was written.
abbrev pub PutsCode : Bool → Done → Done → Output → Output → ℕ → ℕ → Type 0
PutsCode lower done end old new faults now =
    ((end ≡ done) × PutsText old new (code_left lower done) × (now ≡ faults))
    ⊎ ((IsDue lower done × (end ≡ record { status = 3; session = done.session }) × PutsPart old new (code_left lower done) × Rose faults now × (faults ≤ now))
    ⊎ (IsDue lower done × (end ≡ record { status = 9; session = None }) × StaysWritten old new × (now ≡ faults)))
