-- Runs that write a journal, part by part.
use Rattle.std.specs.Prelude.{◌≡◌, ℕ, ◌+◌, Bool, true, false, List, [], ◌∷◌, ◌++◌, length, Some, All, Result, Ok, Err, IfOk, IfSome, slice_index_or}
use Rattle.sg_words.specs.declared.memory.Stop.{Stop}
use Rattle.sg_words.specs.declared.memory.Stop.TheVariants as stop
use Rattle.sg_layout.specs.declared.shape.Shape.{Shape}
use Rattle.sg_flat.specs.declared.state.FlatState.{FlatState}
use Rattle.sg_store.specs.StoreWords.{StoreWords}
use Rattle.sg_store.specs.Standing.{StandForState}
use Rattle.sg_session.specs.declared.tasks.Task.{Task}
use Rattle.sg_session.specs.Compiled.{CheckedProgram}
use Rattle.sg_session.specs.Bindings.{Binding}
use Rattle.sg_journal.specs.declared.lines.Link.{Link}
use Rattle.sg_journal.specs.declared.lines.Line.{Line}
use Rattle.sg_journal.specs.Lines.{IsInRange, lines_text, end_line}
use Rattle.sg_journal.specs.Journal.{held_after}
use Rattle.sg_journal.specs.Rooms.{rooms_of}
use Rattle.sg_journal.specs.Placing.{Placing, ArePlaced}
use Rattle.sg_journal.specs.PlacingLaws.{HoldsPlaced}
use Rattle.sg_journal.specs.Needs.{HoldsNeed}
use Rattle.sg_journal.specs.Changes.{changes}
use Rattle.sg_journal.specs.declared.placing.Placed.{Placed}
use Rattle.sg_audit.specs.AuditLaws.{AreSoundLines}
use Rattle.sparsegrid.specs.declared.output.PutFailed.{PutFailed}
use Rattle.sparsegrid.specs.declared.session.Done.{Done}
use Rattle.sparsegrid.specs.Parts.{Parts, lines_in, AreChanges, AreSoundParts, AreOver, HoldsStores}
use Rattle.sparsegrid.specs.Moves.{Move, Reached, names_in, reached_in}
use Rattle.sparsegrid.specs.Telling.{Telling}
use Rattle.sparsegrid.specs.Meaning.{Meaning, Readings, at_state, after_moves, meaning_of_tasks}
use Rattle.sparsegrid.specs.Outcome.{Output, Outside, StaysWritten, Made}
use Rattle.sparsegrid.specs.Journaling.{with_journal, IsJournalOf}
use Rattle.sparsegrid.specs.steps.Along.{PutsText, PutsPart, ReadMade, names_of, Agree, NoneFailed, Went}

-- ---- any part of a run

-- a meaning with the parts of a journal, where one is written
abbrev pub in_journal : Bool → Parts → Meaning → Meaning
in_journal false parts m = m
in_journal true parts m = with_journal parts m

-- the lines of parts are sound over the layouts of the states that are reached
abbrev pub AreSoundOver : Parts → List Reached → Type 0
AreSoundOver parts reached = (shapes : List Shape) → AreOver shapes reached → (held : List Link) × AreSoundLines (rooms_of shapes) (lines_in parts) held

-- how a part of a run ended: it came to its end, and the parts are a journal of what it means; or it was cut short, and they are sound so far
abbrev pub Journals : Parts → Meaning → Result Done (Stop PutFailed) → Type 0
Journals parts m (Ok done) = IsJournalOf m parts done.session
Journals parts m (Err why) = AreSoundOver parts (reached_in m.moves)

-- a part of a run went, where it may be one that writes a journal: then these are its parts
pub record Kept (journal : Bool) (m : Readings → Meaning) (earlier : ℕ) (before after : Outside) (result : Result Done (Stop PutFailed)) : Type 0 where
  pub parts : Parts
  pub went : Went (λ readings. in_journal journal parts (m readings)) earlier before after result
  pub journals : journal ≡ true → (readings : Readings) → Agree readings earlier went.made → Journals parts (m readings) result

-- where a session is left nothing is held in its stores, as after a journal without parts
abbrev pub HoldsNothing : Result Done (Stop PutFailed) → Type 0
HoldsNothing result = IfOk result (λ done. IfSome done.session (λ left. HoldsStores left.compiled.layouts [] left.stores))

-- ---- parts, one after the other

-- parts over layouts of these shapes that are sound from nothing held, one for each state, and lead to this
pub record LeadPartsTo (shapes : List Shape) (parts : Parts) (states : List Reached) (held : List Link) : Type 0 where
  pub over : AreOver shapes states
  pub sound : AreSoundParts [] parts states
  pub after : held_after (rooms_of shapes) [] (lines_in parts) ≡ Some held
  pub in_range : All IsInRange (lines_in parts)

-- one more sound part goes behind them
abbrev pub PartsGoOn : Type 0
PartsGoOn = (shapes : List Shape) (parts : Parts) (states : List Reached) (held next : List Link) (part : List Line) (at : Reached) →
    LeadPartsTo shapes parts states held → at.shapes ≡ shapes → held_after (rooms_of shapes) held part ≡ Some next → HoldsNeed shapes at.state next → AreChanges held next part → All IsInRange part →
    LeadPartsTo shapes (parts ++ part ∷ []) (states ++ at ∷ []) next

-- ---- performed tasks, whose changes were written in place of their texts

-- the text of the part of a number, from 0; it is empty past the last
abbrev pub part_text : Parts → ℕ → List ℕ
part_text parts number = lines_text (slice_index_or parts number [])

-- what is written of the commands where these are the parts behind the first: each its own, and the end where all are done
abbrev pub telling_parts : Parts → Telling
telling_parts parts = record { each = λ number text. part_text parts number; ending = λ state. []; closing = end_line }

-- So many tasks were performed from a state on, after so many reads, up to these that are left, and `more` are the parts of their journal behind the
-- first so far: `made` are the reads, `did` are the moves behind those of the first part, whatever parts come later; the stores stand for the state
-- that is reached, and what is held is what stands in them.
pub record CameWithParts (program : CheckedProgram) (bindings : List Binding) (earlier : ℕ) (start : FlatState) (tasks : List Task) (first : List Line)
    (number : ℕ) (rest : List Task) (stores : List StoreWords) (placed : Placing) (before now : Outside) : Type 0 where
  pub more : Parts
  pub as_many : length more ≡ number
  pub made : List ReadMade
  pub did : List Move
  pub state : FlatState
  pub stand : StandForState program.layouts stores state
  pub names : names_in did ≡ names_of made
  pub grew : Made did [] before now
  pub same_files : now.held ≡ before.held
  pub none : NoneFailed before now made
  pub is : (later : Parts) (readings : Readings) → Agree readings earlier made
      → meaning_of_tasks program bindings (telling_parts (more ++ later)) readings 0 earlier start tasks
      ≡ after_moves did (meaning_of_tasks program bindings (telling_parts (more ++ later)) readings number (length made + earlier) state rest)
  pub held : List Link
  pub led : LeadPartsTo program.layouts (first ∷ more) (at_state program start ∷ reached_in did) held
  pub placed_is : ArePlaced stores placed
  pub members : HoldsPlaced held placed

-- where the parts lead that tasks wrote: where these came to their end, to what stands in the stores that are left
abbrev pub LeadsOn : List Shape → Parts → Reached → List Move → Result Done (Stop PutFailed) → Type 0
LeadsOn shapes parts first did (Ok done) =
    (held : List Link) × LeadPartsTo shapes parts (first ∷ reached_in did) held × IfSome done.session (λ left. HoldsStores left.compiled.layouts parts left.stores)
LeadsOn shapes parts first did (Err why) = (held : List Link) × (states : List Reached) × LeadPartsTo shapes parts (first ∷ states) held

-- tasks went after the first part of their journal
pub record WentOn (program : CheckedProgram) (bindings : List Binding) (earlier : ℕ) (start : FlatState) (tasks : List Task) (first : List Line)
    (before after : Outside) (result : Result Done (Stop PutFailed)) : Type 0 where
  pub more : Parts
  pub went : Went (λ readings. meaning_of_tasks program bindings (telling_parts more) readings 0 earlier start tasks) earlier before after result
  pub leads : LeadsOn program.layouts (first ∷ more) (at_state program start) went.did result

-- the first part of a journal leads to what stands in a placing
pub record Begins (program : CheckedProgram) (start : FlatState) (first : List Line) (placed : Placing) : Type 0 where
  pub held : List Link
  pub led : LeadPartsTo program.layouts (first ∷ []) (at_state program start ∷ []) held
  pub members : HoldsPlaced held placed

-- ---- the changes that are written

-- the text of these lines was put, and their numbers are in range; or memory ran out, and nothing was written
abbrev pub PutsChanges : {A : Type 0} → Result A (Stop PutFailed) → List Line → Output → Output → Type 0
PutsChanges (Ok done) lines old new = PutsText old new (lines_text lines) × All IsInRange lines
PutsChanges (Err (stop.Refused failed)) lines old new = PutsPart old new (lines_text lines) × All IsInRange lines
PutsChanges (Err stop.Memory) lines old new = StaysWritten old new

-- the changes were put that lead from a placing to that of stores, or a part of them; or memory ran out
abbrev pub PutsNext : Result Placed (Stop PutFailed) → List StoreWords → Placing → Output → Output → Type 0
PutsNext (Ok next) stores placed old new = ArePlaced stores next.layouts × PutsText old new (lines_text (changes placed next.layouts)) × All IsInRange (changes placed next.layouts)
PutsNext (Err (stop.Refused failed)) stores placed old new =
    (next : Placing) × ArePlaced stores next × PutsPart old new (lines_text (changes placed next)) × All IsInRange (changes placed next)
PutsNext (Err stop.Memory) stores placed old new = StaysWritten old new
