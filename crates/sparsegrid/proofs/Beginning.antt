-- What a run does with a snapshot, or without one, is what its meaning says.
use Rattle.std.proofs.Common.{◌≡◌, ◌≢◌, ℕ, inr, Bool, true, false, List, [], Option, Some, None, Result, Ok, Err, IfOk, refl, sym, ap, ◌∙◌, subst, arith}
use Rattle.std.specs.Prelude.{All, IsSome}
use Rattle.std.specs.Option.{IfSome}
use Rattle.std.specs.Result.{IsOkAnd}
use Rattle.sg_words.specs.declared.memory.Stop.{Stop}
use Rattle.sg_words.specs.declared.memory.Stop.TheVariants as stop
use Rattle.sg_outside.specs.Counts.{Rose, one_more}
use Rattle.sg_outside.specs.Files.{Held, Reading, Bytes, TooMany, Missing, reading, asked_too}
use Rattle.sg_layout.specs.declared.shape.Shape.{Shape}
use Rattle.sg_flat.specs.declared.state.FlatState.{FlatState}
use Rattle.sg_flat.specs.State.{opening}
use Rattle.sg_names.specs.Tables.{Tables}
use Rattle.sg_store.specs.Standing.{StandForState}
use Rattle.sg_store.specs.declared.store.Stores.{Stores}
use Rattle.sg_snapshot.specs.declared.fault.SnapFault.{SnapFault}
use Rattle.sg_snapshot.specs.declared.fault.SnapFault.TheVariants.{NotSnapshot, NotClosed, Full}
use Rattle.sg_snapshot.specs.Restoring.{restored}
use Rattle.sg_snapshot.specs.Restored.{StandForRestored}
use Rattle.sg_store.specs.WellFormed.{IsWellFormed}
use Rattle.sg_journal.specs.Placing.{nothing_placed}
use Rattle.sg_journal.specs.PlacingLaws.{NothingIsHeld}
use Rattle.sg_journal.specs.Needs.{OpeningIsPlaced}
use Rattle.sg_session.specs.Performed.{SessionParts, HasState, IsOpened}
use Rattle.sg_session.specs.Compiled.{CheckedProgram, CompiledProgram, Compiles}
use Rattle.sparsegrid.specs.declared.output.PutFailed.{PutFailed}
use Rattle.sparsegrid.specs.declared.session.Done.{Done}
use Rattle.sparsegrid.specs.declared.snapshot.NoSnapshot.{NoSnapshot}
use Rattle.sparsegrid.specs.declared.snapshot.NoSnapshot.TheVariants as no
use Rattle.sparsegrid.specs.Limits.{most_snapshot_bytes}
use Rattle.sparsegrid.specs.Lines.{snapshot_last}
use Rattle.sparsegrid.specs.Parts.{HoldsStores}
use Rattle.sparsegrid.specs.Meaning.{Meaning, Readings, refused_with, asking_for, after_restoring, after_snapshot, begun}
use Rattle.sparsegrid.specs.Outcome.{Output, Outside, StaysWritten, StandsForLast}
use Rattle.sparsegrid.specs.steps.Along.{Sends, LeavesOnly, LeavesProgram, IsEnd, line_text}
use Rattle.sparsegrid.specs.steps.Leading.{Kept, HoldsNothing}
use Rattle.sparsegrid.specs.steps.Beginning.{WasRead, is_read, lacks_room, SnapshotCause, no_snapshot_last, no_snapshot_leaves}
use Rattle.sparsegrid.proofs.Writing.{made_read}
use Rattle.sparsegrid.proofs.Going.{EndsInLine, Gone, gone_text, gone_before, stays_same, went_gone}
use Rattle.sparsegrid.proofs.Opened.{from_opened}
use Rattle.sparsegrid.proofs.Kept.{kept_same, kept_memory, kept_line, kept_failed, kept_asking}
use Rattle.sparsegrid.proofs.Sources.{not_two, snapshot_ends, without_session}
use Rattle.sparsegrid.proofs.Tasks.{refused_ends}

-- ---- the statuses

-- a snapshot for whose state there is no room leaves the opening state
leaves_opening : (shapes : List Shape) (why : NoSnapshot) → lacks_room why ≡ true → no_snapshot_leaves shapes why ≡ Some (opening shapes)
leaves_opening shapes no.Read full = absurd (cc)
leaves_opening shapes no.TooLong full = absurd (cc)
leaves_opening shapes (no.Fault NotSnapshot) full = absurd (cc)
leaves_opening shapes (no.Fault (NotClosed layout)) full = absurd (cc)
leaves_opening shapes (no.Fault (Full layout node cap)) full = refl

full_status : (names : Tables) (name : List ℕ) (why : NoSnapshot) → lacks_room why ≡ true → (no_snapshot_last names name why).status ≡ 7
full_status names name no.Read full = absurd (cc)
full_status names name no.TooLong full = absurd (cc)
full_status names name (no.Fault NotSnapshot) full = absurd (cc)
full_status names name (no.Fault (NotClosed layout)) full = absurd (cc)
full_status names name (no.Fault (Full layout node cap)) full = refl

other_status : (names : Tables) (name : List ℕ) (why : NoSnapshot) → lacks_room why ≡ false → (no_snapshot_last names name why).status ≢ 7
other_status names name no.Read room = λ e. absurd (omega (arith, e))
other_status names name no.TooLong room = λ e. absurd (omega (arith, e))
other_status names name (no.Fault NotSnapshot) room = λ e. absurd (omega (arith, e))
other_status names name (no.Fault (NotClosed layout)) room = λ e. absurd (omega (arith, e))
other_status names name (no.Fault (Full layout node cap)) room = absurd (cc)

fault_not_two : (names : Tables) (fault : SnapFault) → (snapshot_last names fault).status ≢ 2
fault_not_two names NotSnapshot = λ two. absurd (omega (arith, two))
fault_not_two names (NotClosed layout) = λ two. absurd (omega (arith, two))
fault_not_two names (Full layout node cap) = λ two. absurd (omega (arith, two))

-- ---- from the read of a snapshot on

-- without a snapshot it is the opening state
pub begun_opened : (b : Bool) (program : CheckedProgram) (from : Option (List ℕ)) (compiled : CompiledProgram) (opened : SessionParts) (more : Readings → ℕ → FlatState → Meaning)
    (before after : Outside) (result : Result Done (Stop PutFailed)) → from ≡ None → Compiles program compiled → IsOpened compiled opened
    → (Compiles program opened.compiled → (state : FlatState) → StandForState opened.compiled.layouts opened.stores state → Kept b (λ readings. more readings 1 state) 1 before after result)
    → Kept b (λ readings. begun program from readings (more readings)) 1 before after result
begun_opened b program from compiled opened more before after result bare compiles is kept =
    subst (λ (f : Option (List ℕ)). Kept b (λ readings. begun program f readings (more readings)) 1 before after result) (sym bare)
    (from_opened b program compiled opened (λ state readings. more readings 1 state) 1 before after result compiles is.compiled is.opening kept)

module _ (b : Bool) (program : CheckedProgram) (from : Option (List ℕ)) (name : List ℕ) (is_from : from ≡ Some name) (more : Readings → ℕ → FlatState → Meaning) where
  abbrev from_snapshot : Readings → Meaning
  from_snapshot readings = begun program from readings (more readings)

  abbrev behind : Reading → Readings → Meaning
  behind given readings = after_snapshot program name (more readings 2) given

  -- the read gave this, and what it means was done
  module _ (result : Result Stores (Stop NoSnapshot)) (before mid after : Outside) (was : WasRead program.layouts before.held name result)
      (asked : mid.asked ≡ asked_too before.asked name) (reads : mid.reads ≡ one_more before.reads) (held : mid.held ≡ before.held) (stays : StaysWritten before.output mid.output)
      (answer : Result Done (Stop PutFailed)) where
    snapshot_gave : is_read result ≡ false → mid.failed_reads ≡ before.failed_reads → Kept b (behind was.given) 2 mid after answer → Kept b from_snapshot 1 before after answer
    snapshot_gave no_read faults kept =
        kept_asking b from_snapshot (behind was.given) 1 2 (record { name = name; limit = most_snapshot_bytes; given = was.given }) before mid after answer (omega arith)
        (λ readings agree. ap (λ (f : Option (List ℕ)). begun program f readings (more readings)) is_from ∙ ap (λ (r : Reading). asking_for name (after_snapshot program name (more readings 2) r)) agree.0)
        (made_read name before mid stays asked reads) held
        (record { no_fault = faults; told = λ files told. (was.told no_read files told, tt) }) kept

  pub begun_with : (stores : Stores) (before mid after : Outside) (was : WasRead program.layouts before.held name (Ok stores))
      → mid.asked ≡ asked_too before.asked name → mid.reads ≡ one_more before.reads → mid.held ≡ before.held → StaysWritten before.output mid.output → mid.failed_reads ≡ before.failed_reads
      → (answer : Result Done (Stop PutFailed)) → ((state : FlatState) → StandForState program.layouts stores.list state → Kept b (λ readings. more readings 2 state) 2 mid after answer)
      → Kept b from_snapshot 1 before after answer
  begun_with stores before mid after was asked reads held stays faults answer went =
      snapshot_gave (Ok stores) before mid after was asked reads held stays answer refl faults
      (by_restored (restored program.layouts was.made.0) refl was.made.2)
    where
      by_restored : (r : Result FlatState SnapFault) → restored program.layouts was.made.0 ≡ r → IsOkAnd r (StandForState program.layouts stores.list) → Kept b (behind was.given) 2 mid after answer
      by_restored (Err fault) is stand = absurd stand
      by_restored (Ok state) is stand =
          kept_same b (behind was.given) (λ readings. more readings 2 state) 2 mid after answer
          (λ readings. ap (after_snapshot program name (more readings 2)) was.made.1 ∙ ap (after_restoring program (more readings 2)) is) (went state stand)

  -- there was no memory
  pub begun_memory : (before after : Outside) (was : WasRead program.layouts before.held name (Err stop.Memory))
      → after.asked ≡ asked_too before.asked name → after.reads ≡ one_more before.reads → after.held ≡ before.held → StaysWritten before.output after.output → after.failed_reads ≡ before.failed_reads
      → ((readings : Readings) (state : FlatState) → EndsInLine (more readings 2 state)) → Kept b from_snapshot 1 before after (Err stop.Memory)
  begun_memory before after was asked reads held stays faults ends =
      snapshot_gave (Err stop.Memory) before after after was asked reads held stays (Err stop.Memory) refl faults
      (kept_memory b (behind was.given) 2 after after (λ readings. snapshot_ends program name (more readings 2) was.given (ends readings)) (stays_same after.output) refl refl refl)

  -- what a refused snapshot means
  abbrev refused_by : NoSnapshot → Meaning
  refused_by why = refused_with (no_snapshot_leaves program.layouts why) (no_snapshot_last program.names name why)

  pub begun_refused : (why : NoSnapshot) (before mid after : Outside) (was : WasRead program.layouts before.held name (Err (stop.Refused why)))
      → mid.asked ≡ asked_too before.asked name → mid.reads ≡ one_more before.reads → mid.held ≡ before.held → StaysWritten before.output mid.output
      → SnapshotCause (is_read (Err (stop.Refused why))) before.failed_reads mid.failed_reads
      → after.asked ≡ mid.asked → after.reads ≡ mid.reads → after.failed_reads ≡ mid.failed_reads
      → (answer : Result Done (Stop PutFailed)) → Sends answer mid.output after.output (line_text (no_snapshot_last program.names name why))
      → IfOk answer (λ done. done.status ≡ (no_snapshot_last program.names name why).status) → LeavesOnly (StandsForLast (no_snapshot_leaves program.layouts why)) answer → HoldsNothing answer
      → Kept b from_snapshot 1 before after answer
  begun_refused why before mid after was asked reads held stays cause still_asked still_reads still_faults answer sent status last holds = by_why why was cause refl where
    gone : Gone (refused_by why) mid.output after.output answer
    gone = gone_text (refused_by why) (line_text (no_snapshot_last program.names name why)) mid.output after.output answer refl (refused_ends (no_snapshot_leaves program.layouts why) (no_snapshot_last program.names name why)) sent status last

    refused : (w : NoSnapshot) → why ≡ w → (no_snapshot_last program.names name w).status ≢ 2 → Kept b (λ readings. refused_by w) 2 mid after answer
    refused w is other =
        kept_line b (no_snapshot_leaves program.layouts w) (no_snapshot_last program.names name w) 2 mid after answer holds
        (went_gone (refused_by w) 2 mid after answer (subst (λ (x : NoSnapshot). Gone (refused_by x) mid.output after.output answer) is gone) still_asked still_reads still_faults
        (not_two answer (no_snapshot_last program.names name w).status other (subst (λ (x : NoSnapshot). IfOk answer (λ done. done.status ≡ (no_snapshot_last program.names name x).status)) is status)))

    by_why : (w : NoSnapshot) (it : WasRead program.layouts before.held name (Err (stop.Refused w))) → SnapshotCause (is_read (Err (stop.Refused w))) before.failed_reads mid.failed_reads → why ≡ w
        → Kept b from_snapshot 1 before after answer
    by_why no.Read it rose is =
        kept_failed b from_snapshot (no_snapshot_leaves program.layouts no.Read) (no_snapshot_last program.names name no.Read) 1 name most_snapshot_bytes before after answer
        (λ readings missing. ap (λ (f : Option (List ℕ)). begun program f readings (more readings)) is_from ∙ ap (λ (r : Reading). asking_for name (after_snapshot program name (more readings 2) r)) missing)
        (gone_before (refused_by no.Read) before.output mid.output after.output answer stays (subst (λ (w : NoSnapshot). Gone (refused_by w) mid.output after.output answer) is gone)) holds
        (still_asked ∙ asked) (still_reads ∙ reads) (subst (λ (count : ℕ). Rose before.failed_reads count) (sym still_faults) rose)
        (subst (λ (w : NoSnapshot). IfOk answer (λ done. done.status ≡ (no_snapshot_last program.names name w).status)) is status)
    by_why no.TooLong it same is =
        snapshot_gave (Err (stop.Refused no.TooLong)) before mid after it asked reads held stays answer refl same
        (kept_same b (behind it.given) (λ readings. refused_by no.TooLong) 2 mid after answer (λ readings. ap (after_snapshot program name (more readings 2)) it.made) (refused no.TooLong is (λ two. absurd (omega (arith, two)))))
    by_why (no.Fault fault) it same is =
        snapshot_gave (Err (stop.Refused (no.Fault fault))) before mid after it asked reads held stays answer refl same
        (kept_same b (behind it.given) (λ readings. refused_by (no.Fault fault)) 2 mid after answer
        (λ readings. ap (after_snapshot program name (more readings 2)) it.made.1 ∙ ap (after_restoring program (more readings 2)) it.made.2) (refused (no.Fault fault) is (fault_not_two program.names fault)))

-- the stores that were made stand for some state
pub has_state : (shapes : List Shape) (held : Option Held) (name : List ℕ) (stores : Stores) → WasRead shapes held name (Ok stores) → HasState shapes stores.list
has_state shapes held name stores was = by_restored (restored shapes was.made.0) was.made.2 where
  by_restored : (r : Result FlatState SnapFault) → IsOkAnd r (StandForState shapes stores.list) → HasState shapes stores.list
  by_restored (Ok state) stand = (state, stand)
  by_restored (Err fault) stand = absurd stand

-- ---- in the words of what a program is compiled to

pub was_of : (shapes shapes' : List Shape) (held : Option Held) (name : List ℕ) (result : Result Stores (Stop NoSnapshot)) → shapes ≡ shapes'
    → WasRead shapes held name result → WasRead shapes' held name result
was_of shapes shapes' held name result same was = subst (λ (it : List Shape). WasRead it held name result) same was

pub sent_of : (program : CheckedProgram) (compiled : CompiledProgram) (name : List ℕ) (why : NoSnapshot) (old new : Output) (answer : Result Done (Stop PutFailed)) → Compiles program compiled
    → Sends answer old new (line_text (no_snapshot_last compiled.names name why)) → Sends answer old new (line_text (no_snapshot_last program.names name why))
sent_of program compiled name why old new answer compiles sent = subst (λ (names : Tables). Sends answer old new (line_text (no_snapshot_last names name why))) compiles.names sent

pub status_of_line : (program : CheckedProgram) (compiled : CompiledProgram) (name : List ℕ) (why : NoSnapshot) (answer : Result Done (Stop PutFailed)) → Compiles program compiled
    → IfOk answer (λ done. done.status ≡ (no_snapshot_last compiled.names name why).status) → IfOk answer (λ done. done.status ≡ (no_snapshot_last program.names name why).status)
status_of_line program compiled name why answer compiles is = subst (λ (names : Tables). IfOk answer (λ done. done.status ≡ (no_snapshot_last names name why).status)) compiles.names is

pub last_of : (program : CheckedProgram) (compiled : CompiledProgram) (why : NoSnapshot) (answer : Result Done (Stop PutFailed)) → Compiles program compiled
    → LeavesOnly (StandsForLast (no_snapshot_leaves compiled.layouts why)) answer → LeavesOnly (StandsForLast (no_snapshot_leaves program.layouts why)) answer
last_of program compiled why answer compiles is = subst (λ (shapes : List Shape). LeavesOnly (StandsForLast (no_snapshot_leaves shapes why)) answer) compiles.layouts is

-- ---- what the read of a snapshot gave

module _ (shapes : List Shape) (held : Option Held) (name : List ℕ) where
  abbrev Told : Reading → Type 0
  Told given = (files : Held) → held ≡ Some files → reading files name most_snapshot_bytes ≡ given

  pub made_stores : (bytes : List ℕ) (stores : Stores) → StandForRestored shapes bytes (Ok stores) → Told (Bytes bytes) → WasRead shapes held name (Ok stores)
  made_stores bytes stores stand told = record { given = Bytes bytes; made = (bytes, refl, stand); told = λ no_read files is. sym (told files is) }

  pub made_fault : (bytes : List ℕ) (fault : SnapFault) → StandForRestored shapes bytes (Err (stop.Refused fault)) → Told (Bytes bytes) → WasRead shapes held name (Err (stop.Refused (no.Fault fault)))
  made_fault bytes fault is told = record { given = Bytes bytes; made = (bytes, refl, is); told = λ no_read files at. sym (told files at) }

  pub made_long : Told TooMany → WasRead shapes held name (Err (stop.Refused no.TooLong))
  made_long told = record { given = TooMany; made = refl; told = λ no_read files is. sym (told files is) }

  pub made_failed : WasRead shapes held name (Err (stop.Refused no.Read))
  made_failed = record { given = Missing; made = refl; told = λ no_read. absurd (cc) }

  -- there was no memory: what the files hold, if they tell it
  pub made_nothing : WasRead shapes held name (Err stop.Memory)
  made_nothing = record { given = given held; made = tt; told = λ no_read files is. ap given is } where
    given : Option Held → Reading
    given None = Missing
    given (Some files) = reading files name most_snapshot_bytes

-- ---- how a run ends whose snapshot is none

line_end : (names : Tables) (name : List ℕ) (why : NoSnapshot)
    → ((no_snapshot_last names name why).status ≢ 3) × ((no_snapshot_last names name why).status ≢ 9) × ((no_snapshot_last names name why).status ≢ 0)
line_end names name no.Read = ((λ e. absurd (omega (arith, e))), (λ e. absurd (omega (arith, e))), (λ e. absurd (omega (arith, e))))
line_end names name no.TooLong = ((λ e. absurd (omega (arith, e))), (λ e. absurd (omega (arith, e))), (λ e. absurd (omega (arith, e))))
line_end names name (no.Fault NotSnapshot) = ((λ e. absurd (omega (arith, e))), (λ e. absurd (omega (arith, e))), (λ e. absurd (omega (arith, e))))
line_end names name (no.Fault (NotClosed layout)) = ((λ e. absurd (omega (arith, e))), (λ e. absurd (omega (arith, e))), (λ e. absurd (omega (arith, e))))
line_end names name (no.Fault (Full layout node cap)) = ((λ e. absurd (omega (arith, e))), (λ e. absurd (omega (arith, e))), (λ e. absurd (omega (arith, e))))

-- it leaves no session, but where there is no room
pub refused_without : (names : Tables) (name : List ℕ) (why : NoSnapshot) (result : Result Done (Stop PutFailed)) → lacks_room why ≡ false
    → IfOk result (λ done. done.status ≡ (no_snapshot_last names name why).status) → IfOk result (λ done. done.session ≡ None) → IfOk result IsEnd
refused_without names name why result room status none =
    let ends = line_end names name why in
    without_session result (no_snapshot_last names name why).status ends.0 ends.1 ends.2 (other_status names name why room) status none

pub left_none : (P : SessionParts → Type 0) (result : Result Done (Stop PutFailed)) → IfOk result (λ done. done.session ≡ None) → LeavesOnly P result
left_none P (Err why) none = tt
left_none P (Ok done) none = by_session done.session none where
  by_session : (o : Option SessionParts) → o ≡ None → IfSome o P
  by_session None e = tt
  by_session (Some kept) e = absurd (cc)

pub full_end : (names : Tables) (name : List ℕ) (why : NoSnapshot) (result : Result Done (Stop PutFailed)) → lacks_room why ≡ true
    → IfOk result (λ done. done.status ≡ (no_snapshot_last names name why).status) → IfOk result (λ done. IsSome done.session) → IfOk result IsEnd
full_end names name why (Err failed) full status some = tt
full_end names name why (Ok done) full status some =
    let seven : done.status ≡ 7 = status ∙ full_status names name why full in
    ((λ three. absurd (omega (arith, seven, three))), (λ nine. absurd (omega (arith, seven, nine))), ((λ left. inr seven), (λ has. some)))

-- what an opened session is of the one that is left
with_opened : (compiled : CompiledProgram) (P : SessionParts → Type 0) (result : Result Done (Stop PutFailed)) → ((session : SessionParts) → IsOpened compiled session → P session)
    → LeavesOnly (IsOpened compiled) result → LeavesOnly P result
with_opened compiled P (Err why) holds opened = tt
with_opened compiled P (Ok done) holds opened = by_session done.session opened where
  by_session : (o : Option SessionParts) → IfSome o (IsOpened compiled) → IfSome o P
  by_session None is = tt
  by_session (Some session) is = holds session is

pub full_last : (compiled : CompiledProgram) (why : NoSnapshot) (result : Result Done (Stop PutFailed)) → lacks_room why ≡ true → LeavesOnly (IsOpened compiled) result
    → LeavesOnly (StandsForLast (no_snapshot_leaves compiled.layouts why)) result
full_last compiled why result full opened = with_opened compiled (StandsForLast (no_snapshot_leaves compiled.layouts why)) result stands opened where
  stands : (session : SessionParts) → IsOpened compiled session → StandsForLast (no_snapshot_leaves compiled.layouts why) session
  stands session is =
      subst (λ (last : Option FlatState). StandsForLast last session) (sym (leaves_opening compiled.layouts why full))
      (subst (λ (c : CompiledProgram). StandForState c.layouts session.stores (opening compiled.layouts)) (sym is.compiled) is.opening)

pub full_program : (compiled : CompiledProgram) (result : Result Done (Stop PutFailed)) → LeavesOnly (IsOpened compiled) result → LeavesProgram compiled result
full_program compiled result opened = with_opened compiled (λ session. session.compiled ≡ compiled) result (λ session is. is.compiled) opened

-- nothing is held in the stores of an opened session
pub full_nothing : OpeningIsPlaced → NothingIsHeld → (compiled : CompiledProgram) (session : SessionParts) → All IsWellFormed session.stores → IsOpened compiled session
    → HoldsStores session.compiled.layouts [] session.stores
full_nothing placed held compiled session wells is = subst (λ (p : CompiledProgram). HoldsStores p.layouts [] session.stores) (sym is.compiled) (record {
  held = [];
  after = refl;
  placing = nothing_placed compiled.layouts;
  placed = placed compiled.layouts session.stores wells is.opening;
  members = held compiled.layouts;
})
