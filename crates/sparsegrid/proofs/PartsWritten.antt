-- Tasks that are performed while their journal is written.
use Rattle.std.proofs.Common.{◌≡◌, ℕ, zero, suc, ◌+◌, true, List, [], ◌∷◌, ◌++◌, map, length, Result, Ok, Err, IfOk, refl, sym, ap, ◌∙◌, subst, append_assoc, append-nil, arith}
use Rattle.std.specs.Prelude.{All}
use Rattle.std.specs.List.{AllZip}
use Rattle.std.proofs.lemmas.List.{length-append}
use Rattle.sg_words.specs.declared.memory.Stop.{Stop}
use Rattle.sg_words.specs.declared.memory.Stop.TheVariants as stop
use Rattle.sg_words.specs.declared.text.Text.{Text}
use Rattle.sg_layout.specs.declared.shape.Shape.{Shape}
use Rattle.sg_flat.specs.declared.state.FlatState.{FlatState}
use Rattle.sg_store.specs.StoreWords.{StoreWords}
use Rattle.sg_store.specs.WellFormed.{IsWellFormed}
use Rattle.sg_store.specs.Links.{KeepsLinks}
use Rattle.sg_store.specs.Standing.{StandForState}
use Rattle.sg_journal.specs.declared.lines.Link.{Link}
use Rattle.sg_journal.specs.declared.lines.Line.{Line}
use Rattle.sg_journal.specs.Lines.{lines_text, IsInRange, end_line}
use Rattle.sg_journal.specs.Journal.{held_after}
use Rattle.sg_journal.specs.Rooms.{rooms_of}
use Rattle.sg_journal.specs.Placing.{Placing, ArePlaced, nothing_placed}
use Rattle.sg_journal.specs.PlacingLaws.{HoldsPlaced}
use Rattle.sg_journal.specs.Changes.{changes}
use Rattle.sg_journal.specs.Needs.{StoresBegin, StoresChange}
use Rattle.sg_audit.specs.AuditLaws.{YesIsSound}
use Rattle.sg_session.specs.declared.binds.Bind.{Bind}
use Rattle.sg_session.specs.declared.refusal.RunRefusal.{RunRefusal}
use Rattle.sg_session.specs.declared.tasks.Task.{Task}
use Rattle.sg_session.specs.Compiled.{CheckedProgram, Compiles}
use Rattle.sg_session.specs.Bindings.{Binding, binding_read, file_of_task}
use Rattle.sg_session.specs.Performed.{SessionParts}
use Rattle.sparsegrid.specs.declared.output.PutFailed.{PutFailed}
use Rattle.sparsegrid.specs.declared.session.Done.{Done}
use Rattle.sparsegrid.specs.declared.showing.Showing.TheVariants.{Changes}
use Rattle.sparsegrid.specs.Lines.{run_last}
use Rattle.sparsegrid.specs.Moves.{Move, Reaches, Reached, writing, reaching, reached_in}
use Rattle.sparsegrid.specs.Parts.{Parts, with_parts, IsWhereHeld, AreChanges, AreSoundParts, HoldsStores}
use Rattle.sparsegrid.specs.Telling.{telling_of}
use Rattle.sparsegrid.specs.Meaning.{Meaning, Readings, moves_of, after_moves, at_state, meaning_of_tasks, meaning_from}
use Rattle.sparsegrid.specs.Outcome.{Output, Outside, StaysWritten}
use Rattle.sparsegrid.specs.Journaling.{with_journal}
use Rattle.sparsegrid.specs.steps.Along.{Came, PutsText, PutsPart, Sends, Follows, load_reads, line_text, ended_with}
use Rattle.sparsegrid.specs.steps.Leading.{Kept, Journals, PutsChanges, PutsNext, LeadPartsTo, part_text, telling_parts, CameWithParts, LeadsOn, WentOn, Begins}
use Rattle.sparsegrid.proofs.Writing.{reached_append, reached, none_reached, unread_reaching, grew_reaching, grew_part, made_none, made_unread}
use Rattle.sparsegrid.proofs.Going.{at_text, stays_same, went_still, compose}
use Rattle.sparsegrid.proofs.Parted.{reached_with}
use Rattle.sparsegrid.proofs.PartsTold.{parts_told, parts_meant}
use Rattle.sparsegrid.proofs.Parts.{where_placed, parts_go_on, led_audited, led_over}
use Rattle.sparsegrid.proofs.Kept.{kept_memory}
use Rattle.sparsegrid.proofs.Tasks.{Stepped, load_moves, load_still, tasks_end, done_next, means_next, cut_in_step, cut_in_send, ended_in_task, went_all}

-- ---- one part more

-- the part behind so many is that one, whatever comes later
part_behind : (parts later : Parts) (part : List Line) (number : ℕ) → length parts ≡ number → part_text (parts ++ part ∷ later) number ≡ lines_text part
part_behind [] later part number many = ap (part_text (part ∷ later)) (sym many)
part_behind (p ∷ parts) later part zero many = absurd (omega (arith, many))
part_behind (p ∷ parts) later part (suc number) many = part_behind parts later part number (omega (arith, many))

module _ (compiled : CheckedProgram) (binds : List Bind) (earlier : ℕ) (start : FlatState) (tasks : List Task) (first : List Line) (before : Outside) where
  -- the tasks have come so far, whatever parts come later
  abbrev pub came_of : (number : ℕ) (rest : List Task) (stores : List StoreWords) (placed : Placing) (now : Outside)
      → (came : CameWithParts compiled (map binding_read binds) earlier start tasks first number rest stores placed before now) (later : Parts)
      → Came compiled (map binding_read binds) (telling_parts (came.more ++ later)) earlier start tasks number rest stores before now
  came_of number rest stores placed now came later = record {
    made = came.made;
    did = came.did;
    state = came.state;
    stand = came.stand;
    names = came.names;
    grew = came.grew;
    held = came.same_files;
    none = came.none;
    is = came.is later;
  }

  -- before any task
  pub came_begun : (stores : List StoreWords) (placed : Placing) → StandForState compiled.layouts stores start → ArePlaced stores placed → Begins compiled start first placed
      → CameWithParts compiled (map binding_read binds) earlier start tasks first 0 tasks stores placed before before
  came_begun stores placed stand are begins =
      record {
        more = [];
        as_many = refl;
        made = [];
        did = [];
        state = start;
        stand = stand;
        names = refl;
        grew = made_none before before (stays_same before.output) refl refl;
        same_files = refl;
        none = record { no_fault = refl; told = λ h e. tt };
        is = λ later readings agree. ap (λ (n : ℕ). after_moves [] (meaning_of_tasks compiled (map binding_read binds) (telling_parts later) readings 0 n start tasks)) none_made;
        held = begins.held;
        led = begins.led;
        placed_is = are;
        members = begins.members;
      }
    where
      none_made : earlier ≡ 0 + earlier
      none_made = omega arith

  -- the changes of a task lead on
  pub led_next : StoresChange → (number : ℕ) (rest : List Task) (stores stores' : List StoreWords) (placed next : Placing) (now : Outside) (state : FlatState)
      → (came : CameWithParts compiled (map binding_read binds) earlier start tasks first number rest stores placed before now)
      → All IsWellFormed stores → All IsWellFormed stores' → AllZip KeepsLinks stores stores' → ArePlaced stores' next → StandForState compiled.layouts stores' state → All IsInRange (changes placed next)
      → (held : List Link) × LeadPartsTo compiled.layouts (first ∷ came.more ++ changes placed next ∷ []) (at_state compiled start ∷ reached_in came.did ++ at_state compiled state ∷ []) held × HoldsPlaced held next
  led_next change number rest stores stores' placed next now state came old new keep are stand fits =
      let to = change compiled.layouts stores stores' placed next came.held state old new came.stand.shapes_are stand keep came.placed_is are came.members in
      let changed : AreChanges came.held to.next (changes placed next) = record {
        from = placed;
        to = next;
        from_is = where_placed stores placed came.held came.placed_is came.members;
        to_is = where_placed stores' next to.next are to.holds;
        lines = refl;
      } in (
        to.next,
        parts_go_on compiled.layouts (first ∷ came.more) (at_state compiled start ∷ reached_in came.did) came.held to.next (changes placed next) (at_state compiled state) came.led refl to.sound to.needed changed fits,
        to.holds,
      )

  -- one more task was performed, and its part was written
  pub came_more : StoresChange → (number : ℕ) (rest rest' : List Task) (task : Task) (stores stores' : List StoreWords) (placed next : Placing) (text : Text) (now mid after : Outside) → rest ≡ task ∷ rest'
      → (came : CameWithParts compiled (map binding_read binds) earlier start tasks first number rest stores placed before now)
      → Stepped compiled binds came.state task stores' (Ok text) now mid → StaysWritten now.output mid.output
      → All IsWellFormed stores → All IsWellFormed stores' → AllZip KeepsLinks stores stores' → ArePlaced stores' next → All IsInRange (changes placed next)
      → PutsText mid.output after.output (lines_text (changes placed next)) → after.asked ≡ mid.asked → after.reads ≡ mid.reads → after.failed_reads ≡ mid.failed_reads → after.held ≡ mid.held
      → CameWithParts compiled (map binding_read binds) earlier start tasks first (suc number) rest' stores' next before after
  came_more change number rest rest' task stores stores' placed next text now mid after split came did stays old new keep are fits sent asked reads faults held =
      let part = changes placed next in
      let left = did.chosen.1 in
      let at = at_state compiled left.left.state in
      let own = load_moves (file_of_task compiled.names (map binding_read binds) task) ++ reaching (lines_text part) at in
      let so = done_next compiled binds (telling_parts []) earlier came.made came.did came.state task stores' text (lines_text part) before now mid after came.names came.grew came.same_files came.none did stays sent asked reads faults held in
      let led = led_next change number rest stores stores' placed next now left.left.state came old new keep are left.stand fits in
      let own_reached : reached_in own ≡ at ∷ [] = reached_append (load_moves (file_of_task compiled.names (map binding_read binds) task)) (reaching (lines_text part) at)
      ∙ ap (λ (xs : List Reached). xs ++ reached_in (reaching (lines_text part) at)) (load_still (file_of_task compiled.names (map binding_read binds) task)) ∙ reached (lines_text part) at in
      let all_reached : reached_in came.did ++ at ∷ [] ≡ reached_in (came.did ++ own) = ap (λ (xs : List Reached). reached_in came.did ++ xs) (sym own_reached) ∙ sym (reached_append came.did own) in
      record {
        more = came.more ++ part ∷ [];
        as_many = omega (arith, came.as_many, length-append came.more (part ∷ []));
        made = came.made ++ load_reads (file_of_task compiled.names (map binding_read binds) task) did.chosen.0;
        did = came.did ++ own;
        state = left.left.state;
        stand = left.stand;
        names = so.names;
        grew = so.grew;
        same_files = so.held;
        none = so.none;
        is = λ later readings agree.
            subst (λ (parts : Parts). meaning_of_tasks compiled (map binding_read binds) (telling_parts parts) readings 0 earlier start tasks
            ≡ after_moves (came.did ++ own) (meaning_of_tasks compiled (map binding_read binds) (telling_parts parts) readings (suc number)
            (length (came.made ++ load_reads (file_of_task compiled.names (map binding_read binds) task) did.chosen.0) + earlier) left.left.state rest'))
            (sym (append_assoc came.more (part ∷ []) later))
            (means_next compiled binds (telling_parts (came.more ++ part ∷ later)) earlier start tasks number rest rest' task came.made came.did came.state stores' text (lines_text part) now mid split did
            (part_behind came.more later part number came.as_many) (came.is (part ∷ later)) readings agree);
        held = led.0;
        led = subst (λ (states : List Reached). LeadPartsTo compiled.layouts (first ∷ came.more ++ part ∷ []) (at_state compiled start ∷ states) led.0) all_reached led.1;
        placed_is = are;
        members = led.2;
      }

  -- ---- how tasks end, or are cut short

  abbrev WentSo : Outside → Result Done (Stop PutFailed) → Type 0
  WentSo after result = WentOn compiled (map binding_read binds) earlier start tasks first before after result

  -- no part comes later
  led_so : (more : Parts) (states : List Reached) (held : List Link) → LeadPartsTo compiled.layouts (first ∷ more) (at_state compiled start ∷ states) held
      → LeadPartsTo compiled.layouts (first ∷ more ++ []) (at_state compiled start ∷ states) held
  led_so more states held led = subst (λ (parts : Parts). LeadPartsTo compiled.layouts (first ∷ parts) (at_state compiled start ∷ states) held) (sym (append-nil more)) led

  -- there was no memory for the task
  pub cut_short : (number : ℕ) (rest rest' : List Task) (task : Task) (stores stores' : List StoreWords) (placed : Placing) (now after : Outside) → rest ≡ task ∷ rest'
      → (came : CameWithParts compiled (map binding_read binds) earlier start tasks first number rest stores placed before now)
      → Stepped compiled binds came.state task stores' (Err stop.Memory) now after → StaysWritten now.output after.output → WentSo after (Err stop.Memory)
  cut_short number rest rest' task stores stores' placed now after split came did stays = record {
    more = came.more ++ [];
    went = cut_in_step compiled binds (telling_parts (came.more ++ [])) earlier start tasks number rest rest' task stores stores' before now after split (came_of number rest stores placed now came []) did stays;
    leads = (came.held, reached_in came.did, led_so came.more (reached_in came.did) came.held came.led);
  }

  -- there was none for its part
  pub cut_behind : (number : ℕ) (rest rest' : List Task) (task : Task) (stores stores' : List StoreWords) (placed : Placing) (text : Text) (now mid after : Outside) → rest ≡ task ∷ rest'
      → (came : CameWithParts compiled (map binding_read binds) earlier start tasks first number rest stores placed before now)
      → Stepped compiled binds came.state task stores' (Ok text) now mid → StaysWritten now.output mid.output
      → StaysWritten mid.output after.output → after.asked ≡ mid.asked → after.reads ≡ mid.reads → after.failed_reads ≡ mid.failed_reads → WentSo after (Err stop.Memory)
  cut_behind number rest rest' task stores stores' placed text now mid after split came did stays still asked reads faults = record {
    more = came.more ++ [];
    went = cut_in_send compiled binds (telling_parts (came.more ++ [])) earlier start tasks number rest rest' task stores stores' text before now mid after stop.Memory split (came_of number rest stores placed now came []) did stays still asked reads faults;
    leads = (came.held, reached_in came.did, led_so came.more (reached_in came.did) came.held came.led);
  }

  -- the put of its part failed
  pub cut_in_part : StoresChange → (number : ℕ) (rest rest' : List Task) (task : Task) (stores stores' : List StoreWords) (placed next : Placing) (text : Text) (now mid after : Outside) (failed : PutFailed) → rest ≡ task ∷ rest'
      → (came : CameWithParts compiled (map binding_read binds) earlier start tasks first number rest stores placed before now)
      → Stepped compiled binds came.state task stores' (Ok text) now mid → StaysWritten now.output mid.output
      → All IsWellFormed stores → All IsWellFormed stores' → AllZip KeepsLinks stores stores' → ArePlaced stores' next → All IsInRange (changes placed next)
      → Sends {A = Unit} (Err (stop.Refused failed)) mid.output after.output (lines_text (changes placed next)) → after.asked ≡ mid.asked → after.reads ≡ mid.reads → after.failed_reads ≡ mid.failed_reads
      → WentSo after (Err (stop.Refused failed))
  cut_in_part change number rest rest' task stores stores' placed next text now mid after failed split came did stays old new keep are fits sent asked reads faults =
      let part = changes placed next in
      let led = led_next change number rest stores stores' placed next now did.chosen.1.left.state came old new keep are did.chosen.1.stand fits in
      record {
        more = came.more ++ part ∷ [];
        went = cut_in_send compiled binds (telling_parts (came.more ++ part ∷ [])) earlier start tasks number rest rest' task stores stores' text before now mid after (stop.Refused failed) split
            (came_of number rest stores placed now came (part ∷ [])) did stays
            (subst (λ (t : List ℕ). Sends {A = Unit} (Err (stop.Refused failed)) mid.output after.output t) (sym (part_behind came.more [] part number came.as_many)) sent) asked reads faults;
        leads = (led.0, reached_in came.did ++ at_state compiled did.chosen.1.left.state ∷ [], led.1);
      }

  -- the changes of a task weren't written whole
  pub cut_at_part : StoresChange → (number : ℕ) (rest rest' : List Task) (task : Task) (stores stores' : List StoreWords) (placed : Placing) (text : Text) (now mid after : Outside) (why : Stop PutFailed) → rest ≡ task ∷ rest'
      → (came : CameWithParts compiled (map binding_read binds) earlier start tasks first number rest stores placed before now)
      → Stepped compiled binds came.state task stores' (Ok text) now mid → StaysWritten now.output mid.output
      → All IsWellFormed stores → All IsWellFormed stores' → AllZip KeepsLinks stores stores' → PutsNext (Err why) stores' placed mid.output after.output
      → after.asked ≡ mid.asked → after.reads ≡ mid.reads → after.failed_reads ≡ mid.failed_reads → WentSo after (Err why)
  cut_at_part change number rest rest' task stores stores' placed text now mid after stop.Memory split came did stays old new keep sent asked reads faults =
      cut_behind number rest rest' task stores stores' placed text now mid after split came did stays sent asked reads faults
  cut_at_part change number rest rest' task stores stores' placed text now mid after (stop.Refused failed) split came did stays old new keep sent asked reads faults =
      cut_in_part change number rest rest' task stores stores' placed sent.0 text now mid after failed split came did stays old new keep sent.1 sent.3 sent.2 asked reads faults

  -- what is held is what stands in the stores that are left
  holds_left : (more : Parts) (states : List Reached) (stores : List StoreWords) (session : SessionParts) (placed : Placing) (held : List Link) → Compiles compiled session.compiled → session.stores ≡ stores
      → LeadPartsTo compiled.layouts (first ∷ more) (at_state compiled start ∷ states) held → ArePlaced stores placed → HoldsPlaced held placed
      → HoldsStores session.compiled.layouts (first ∷ more) session.stores
  holds_left more states stores session placed held same stay led are members =
      subst (λ (shapes : List Shape). HoldsStores shapes (first ∷ more) session.stores) (sym same.layouts)
      (record { held = held; after = led.after; placing = placed; placed = subst (λ (s : List StoreWords). ArePlaced s placed) (sym stay) are; members = members })

  ended_so : (more : Parts) (states : List Reached) (stores : List StoreWords) (session : SessionParts) (placed : Placing) (held : List Link) (answer : Result ℕ (Stop PutFailed)) (did : List Move)
      → Compiles compiled session.compiled → session.stores ≡ stores
      → LeadPartsTo compiled.layouts (first ∷ more) (at_state compiled start ∷ states) held → ArePlaced stores placed → HoldsPlaced held placed → reached_in did ≡ states
      → LeadsOn compiled.layouts (first ∷ more) (at_state compiled start) did (ended_with session answer)
  ended_so more states stores session placed held (Ok status) did same stay led are members is = (
    held,
    subst (λ (s : List Reached). LeadPartsTo compiled.layouts (first ∷ more) (at_state compiled start ∷ s) held) (sym is) led,
    holds_left more states stores session placed held same stay led are members,
  )
  ended_so more states stores session placed held (Err why) did same stay led are members is = (held, states, led)

  -- the task was refused
  pub refused_so : (number : ℕ) (rest rest' : List Task) (task : Task) (stores : List StoreWords) (session : SessionParts) (placed : Placing) (now mid after : Outside) (why : RunRefusal) (answer : Result ℕ (Stop PutFailed))
      → rest ≡ task ∷ rest' → Compiles compiled session.compiled → (came : CameWithParts compiled (map binding_read binds) earlier start tasks first number rest stores placed before now)
      → Stepped compiled binds came.state task session.stores (Err (stop.Refused why)) now mid → session.stores ≡ stores → StaysWritten now.output mid.output
      → Sends answer mid.output after.output (line_text (run_last compiled.names (file_of_task compiled.names (map binding_read binds) task) task why))
      → IfOk answer (λ status. status ≡ (run_last compiled.names (file_of_task compiled.names (map binding_read binds) task) task why).status)
      → after.asked ≡ mid.asked → after.reads ≡ mid.reads → after.failed_reads ≡ mid.failed_reads → WentSo after (ended_with session answer)
  refused_so number rest rest' task stores session placed now mid after why answer split same came did stay stays sent status asked reads faults =
      let to = ended_in_task compiled binds (telling_parts (came.more ++ [])) earlier start tasks number rest rest' task stores session before now mid after why answer split same
      (came_of number rest stores placed now came []) did stay stays sent status asked reads faults in
      record {
        more = came.more ++ [];
        went = to.went;
        leads = ended_so (came.more ++ []) (reached_in came.did) stores session placed came.held answer to.went.did same stay (led_so came.more (reached_in came.did) came.held came.led) came.placed_is came.members to.reached_is;
      }

  -- all tasks are done, and the end was put
  pub all_so : (number : ℕ) (rest : List Task) (session : SessionParts) (placed : Placing) (now after : Outside) (answer : Result ℕ (Stop PutFailed)) → rest ≡ [] → Compiles compiled session.compiled
      → (came : CameWithParts compiled (map binding_read binds) earlier start tasks first number rest session.stores placed before now)
      → Sends answer now.output after.output end_line → IfOk answer (λ status. status ≡ 0) → after.asked ≡ now.asked → after.reads ≡ now.reads → after.failed_reads ≡ now.failed_reads
      → WentSo after (ended_with session answer)
  all_so number rest session placed now after answer none same came sent status asked reads faults =
      let to = went_all compiled binds (telling_parts (came.more ++ [])) earlier start tasks number rest before now after session answer end_line none same (came_of number rest session.stores placed now came []) refl sent status asked reads faults in
      record {
        more = came.more ++ [];
        went = to.went;
        leads = ended_so (came.more ++ []) (reached_in came.did) session.stores session placed came.held answer to.went.did same refl (led_so came.more (reached_in came.did) came.held came.led) came.placed_is came.members to.reached_is;
      }

-- ---- from the first part on

-- the changes from where nothing stands begin a journal
pub begun_with : StoresBegin → ((shapes : List Shape) → IsWhereHeld [] (nothing_placed shapes)) → (program : CheckedProgram) (start : FlatState) (stores : List StoreWords) (placed : Placing) → All IsWellFormed stores → StandForState program.layouts stores start → ArePlaced stores placed
    → All IsInRange (changes (nothing_placed program.layouts) placed) → Begins program start (changes (nothing_placed program.layouts) placed) placed
begun_with begin nothing program start stores placed well stand are fits =
    let first = changes (nothing_placed program.layouts) placed in
    let to = begin program.layouts stores placed start well stand are in
    let changed : AreChanges [] to.next first = record {
      from = nothing_placed program.layouts;
      to = placed;
      from_is = nothing program.layouts;
      to_is = where_placed stores placed to.next are to.holds;
      lines = refl;
    } in
    record {
      held = to.next;
      led = record {
        over = (refl, tt);
        sound = (to.next, to.sound, to.needed, changed, tt);
        after = ap (held_after (rooms_of program.layouts) []) (append-nil first) ∙ to.sound;
        in_range = subst (All IsInRange) (sym (append-nil first)) fits;
      };
      members = to.holds;
    }

module _ (sound : YesIsSound) (program : CheckedProgram) (bindings : List Binding) (earlier : ℕ) (start : FlatState) (tasks : List Task) (first : List Line) (before : Outside) where
  abbrev journaled : Readings → Meaning
  journaled readings = meaning_from program bindings (telling_of program.names program.layouts Changes) readings earlier start tasks

  abbrev done_first : List Move
  done_first = reaching (lines_text first) (at_state program start)

  -- the states that tasks come to are those that they come to with their parts
  reached_same : (more : Parts) (readings : Readings) (did : List Move) → did ≡ moves_of (meaning_of_tasks program bindings (telling_parts more) readings 0 earlier start tasks)
      → at_state program start ∷ reached_in did ≡ reached_in (journaled readings).moves
  reached_same more readings did all =
      let plain_tasks = meaning_of_tasks program bindings (telling_of program.names program.layouts Changes) readings 0 earlier start tasks in
      let told = meaning_of_tasks program bindings (telling_parts more) readings 0 earlier start tasks in
      ap (λ (states : List Reached). at_state program start ∷ states)
      (ap (λ (moves : List Move). reached_in moves) all ∙ reached_append told.moves (writing told.line) ∙ ap (λ (more : List Reached). reached_in told.moves ++ more) (none_reached told.line)
      ∙ append-nil (reached_in told.moves)
      ∙ ap (λ (m : Meaning). reached_in m.moves) (sym (parts_told program bindings program.names program.layouts more readings 0 earlier start tasks)) ∙ reached_with more plain_tasks.moves)

  journals_on : (more : Parts) (readings : Readings) (did : List Move) (part : List ℕ) (result : Result Done (Stop PutFailed)) → LeadsOn program.layouts (first ∷ more) (at_state program start) did result
      → Follows (meaning_of_tasks program bindings (telling_parts more) readings 0 earlier start tasks) did part result → Journals (first ∷ more) (journaled readings) result
  journals_on more readings did part (Ok done) leads follows =
      let same = reached_same more readings did follows.0.all in
      record {
        each = subst (AreSoundParts [] (first ∷ more)) same leads.1.sound;
        audit = led_audited program.layouts (first ∷ more) (at_state program start) (reached_in did) leads.0 (reached_in (journaled readings).moves) leads.1 _ refl sound;
        holds = leads.2;
      }
  journals_on more readings did part (Err why) leads follows =
      led_over program.layouts (first ∷ more) (at_state program start) leads.1 leads.0 (reached_in (journaled readings).moves) leads.2 _ refl

  -- the first part was put, and then tasks went on
  pub kept_on : (mid after : Outside) (result : Result Done (Stop PutFailed)) → PutsText before.output mid.output (lines_text first) → mid.asked ≡ before.asked → mid.reads ≡ before.reads
      → mid.failed_reads ≡ before.failed_reads → mid.held ≡ before.held → WentOn program bindings earlier start tasks first mid after result → Kept true journaled earlier before after result
  unfolding compose
  kept_on mid after result put asked reads faults held on = record {
    parts = first ∷ on.more;
    went = compose (λ readings. with_journal (first ∷ on.more) (journaled readings)) (λ readings. meaning_of_tasks program bindings (telling_parts on.more) readings 0 earlier start tasks) earlier earlier [] done_first
        before mid after result (omega arith) (λ readings agree. parts_meant program bindings program.names program.layouts first on.more readings earlier start tasks)
        (unread_reaching (lines_text first) (at_state program start))
        (made_unread done_first [] before mid (unread_reaching (lines_text first) (at_state program start)) (grew_reaching (lines_text first) (at_state program start) before.output mid.output put) asked reads)
        held (record { no_fault = faults; told = λ h e. tt }) on.went;
    journals = λ journal readings agree. journals_on on.more readings on.went.did on.went.part result on.leads (on.went.follows readings agree);
  }

  -- the put of the first part failed
  pub kept_cut : (placed : Placing) (after : Outside) (failed : PutFailed) → Begins program start first placed → Sends {A = Unit} (Err (stop.Refused failed)) before.output after.output (lines_text first)
      → after.asked ≡ before.asked → after.reads ≡ before.reads → after.failed_reads ≡ before.failed_reads → Kept true journaled earlier before after (Err (stop.Refused failed))
  kept_cut placed after failed begins part asked reads faults = record {
    parts = first ∷ [];
    went = went_still (λ readings. with_journal (first ∷ []) (journaled readings)) earlier before after (Err (stop.Refused failed)) [] part.part refl (grew_part (lines_text first) before.output after.output part)
        (λ readings. at_text (with_journal (first ∷ []) (journaled readings)) (lines_text first) _ before.output after.output part
        (append_assoc (writing (lines_text first)) (Reaches (at_state program start) ∷ with_parts [] (meaning_of_tasks program bindings (telling_of program.names program.layouts Changes) readings 0 earlier start tasks).moves)
        (writing (journaled readings).line)))
        asked reads faults tt;
    journals = λ journal readings agree.
        led_over program.layouts (first ∷ []) (at_state program start) [] begins.held (reached_in (journaled readings).moves) begins.led _ refl;
  }

  -- there was no memory for it
  pub kept_without : (after : Outside) → StaysWritten before.output after.output → after.asked ≡ before.asked → after.reads ≡ before.reads → after.failed_reads ≡ before.failed_reads
      → Kept true journaled earlier before after (Err stop.Memory)
  kept_without after stays asked reads faults =
      kept_memory true journaled earlier before after (λ readings. tasks_end program bindings (telling_of program.names program.layouts Changes) readings 0 earlier start tasks) stays asked reads faults

  -- the first part wasn't written whole
  pub kept_at_first : (placed : Placing) (after : Outside) (why : Stop PutFailed) → (All IsInRange first → Begins program start first placed) → PutsChanges {A = Unit} (Err why) first before.output after.output
      → after.asked ≡ before.asked → after.reads ≡ before.reads → after.failed_reads ≡ before.failed_reads → Kept true journaled earlier before after (Err why)
  kept_at_first placed after stop.Memory begins sent asked reads faults = kept_without after sent asked reads faults
  kept_at_first placed after (stop.Refused failed) begins sent asked reads faults = kept_cut placed after failed (begins sent.1) sent.0 asked reads faults

-- ---- the text of changes

pub puts_changes : {A : Type 0} (result : Result A (Stop PutFailed)) (lines : List Line) (text : List ℕ) (old new : Output) → text ≡ lines_text lines → All IsInRange lines → Sends result old new text → PutsChanges result lines old new
puts_changes (Ok done) lines text old new same fits sent = (subst (PutsText old new) same sent, fits)
puts_changes (Err (stop.Refused failed)) lines text old new same fits sent = (subst (PutsPart old new) same sent, fits)
puts_changes (Err stop.Memory) lines text old new same fits sent = sent

-- memory ran out, or the put failed
pub puts_next : (why : Stop PutFailed) (next : Placing) (stores : List StoreWords) (placed : Placing) (old new : Output) → ArePlaced stores next → PutsChanges {A = Unit} (Err why) (changes placed next) old new
    → PutsNext (Err why) stores placed old new
puts_next stop.Memory next stores placed old new are sent = sent
puts_next (stop.Refused failed) next stores placed old new are sent = (next, are, sent.0, sent.1)
