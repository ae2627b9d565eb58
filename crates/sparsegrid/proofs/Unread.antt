-- What a generated program means asks for no file.
use Rattle.std.proofs.Common.{◌≡◌, ℕ, suc, Bool, true, false, List, [], ◌∷◌, ◌++◌, Option, Some, None, Result, Ok, Err, refl, sym, ap, ◌∙◌, subst}
use Rattle.std.specs.Prelude.{find, option_and_then, if◌then◌else◌}
use Rattle.std.proofs.lemmas.List.{append-nil}
use Rattle.sg_words.specs.declared.memory.Stop.{Stop}
use Rattle.sg_ast.specs.declared.token.Name.{Name}
use Rattle.sg_outside.specs.Files.{Reading, Bytes, Missing}
use Rattle.sg_lexer.specs.Limits.{most_file_bytes}
use Rattle.sg_flat.specs.declared.state.FlatState.{FlatState}
use Rattle.sg_flat.specs.State.{opening}
use Rattle.sg_names.specs.Tables.{Tables, field_name_of}
use Rattle.sg_session.specs.declared.refusal.Refusal.{Refusal}
use Rattle.sg_session.specs.declared.refusal.RunRefusal.{RunRefusal}
use Rattle.sg_session.specs.declared.tasks.Task.{Task}
use Rattle.sg_session.specs.declared.tasks.Task.TheVariants.{Load, Run, Dump, Image, Stats, Prune, Clear}
use Rattle.sg_session.specs.Commands.{Left, task_meaning}
use Rattle.sg_session.specs.Compiled.{CheckedProgram, unfolded_tasks}
use Rattle.sg_session.specs.Compiling.{compiled_program}
use Rattle.sg_session.specs.Bindings.{Binding, file_bound, file_of_task}
use Rattle.sparsegrid.specs.declared.output.PutFailed.{PutFailed}
use Rattle.sparsegrid.specs.declared.session.Done.{Done}
use Rattle.sparsegrid.specs.declared.words.Mode.TheVariants as mode
use Rattle.sparsegrid.specs.Words.{Asked, Doing, performs, generates, looks, writes_code, audits, doing, is_generated, is_gen}
use Rattle.sparsegrid.specs.declared.showing.Showing.TheVariants.{Texts}
use Rattle.sparsegrid.specs.Telling.{Telling, telling_of}
use Rattle.sparsegrid.specs.Moves.{Move, writing, reaching, names_in}
use Rattle.sparsegrid.specs.Generated.{generated_text}
use Rattle.sparsegrid.specs.Meaning.{Meaning, Readings, is_journal, asked_of, moves_of, asking_for, meaning_of_source, is_unbound, at_state, after_task, task_and_more, meaning_of_tasks, meaning_unless, meaning_of_run, meaning_in, meaning_of_compiled, meaning_of_file, meaning_of_generated, meaning_of_asked}
use Rattle.sparsegrid.specs.Outcome.{Outside, IsFront}
use Rattle.sparsegrid.specs.steps.Along.{ReadMade, names_of, Agree, Follows, ReadsEnd, Went}
use Rattle.sparsegrid.proofs.Writing.{names_append, unread, unread_reaching}
use Rattle.sparsegrid.proofs.Readings.{readings_of, agree_own}
use Rattle.sparsegrid.proofs.Sources.{went_same}

-- if no name is bound a task has no file
no_file : (names : Tables) (task : Task) → file_of_task names [] task ≡ None
no_file names (Load field) = by_name (field_name_of names field.number) where
  by_name : (o : Option Name) → option_and_then (file_bound []) o ≡ None
  by_name None = refl
  by_name (Some name) = refl
no_file names (Run kernel) = refl
no_file names (Dump field) = refl
no_file names (Image field lo hi) = refl
no_file names (Stats layout) = refl
no_file names (Prune layout) = refl
no_file names (Clear layout) = refl

tasks_ask : (program : CheckedProgram) (telling : Telling) (readings : Readings) (number n : ℕ) (state : FlatState) (tasks : List Task) → asked_of (meaning_of_tasks program [] telling readings number n state tasks) ≡ []
unfolding meaning_of_tasks
tasks_ask program telling readings number n state [] = unread (telling.ending state)
tasks_ask program telling readings number n state (task ∷ tasks) =
    ap (λ (file : Option (List ℕ)). asked_of (task_and_more program telling readings number n state task more file)) (no_file program.names task) ∙ by_answer (task_meaning program state task Missing)
    (λ next. tasks_ask program telling readings (suc number) n next tasks)
  where
    more : ℕ → FlatState → Meaning
    more after next = meaning_of_tasks program [] telling readings (suc number) after next tasks

    by_answer : (answer : Result Left RunRefusal) → ((next : FlatState) → asked_of (more n next) ≡ []) → asked_of (after_task program telling number state None task (more n) answer) ≡ []
    by_answer (Ok left) rest =
        names_append (reaching (telling.each number left.text) (at_state program left.state)) (more n left.state).moves ∙ ap (λ (names : List (List ℕ)). names ++ asked_of (more n left.state)) (unread_reaching (telling.each number left.text) (at_state program left.state))
        ∙ rest left.state
    by_answer (Err why) rest = refl

run_asks : (program : CheckedProgram) (telling : Telling) (readings : Readings) (tasks : List Task) → asked_of (meaning_of_run program telling None [] readings tasks) ≡ []
run_asks program telling readings tasks = by_find (find (is_unbound program.names []) tasks) where
  by_find : (o : Option Task) → asked_of (meaning_unless o program telling None [] readings tasks) ≡ []
  by_find None = tasks_ask program telling readings 0 1 (opening program.layouts) tasks
  by_find (Some task) = refl

gen_asks : (what : Doing) (program : CheckedProgram) (from : Option (List ℕ)) (bindings : List Binding) (readings : Readings) → is_generated what ≡ true → asked_of (meaning_in what program from bindings readings) ≡ []
gen_asks (performs shown) program from bindings readings gen = absurd (cc)
gen_asks generates program from bindings readings gen = run_asks program (telling_of program.names program.layouts Texts) readings (unfolded_tasks program.commands)
gen_asks looks program from bindings readings gen = absurd (cc)
gen_asks writes_code program from bindings readings gen = absurd (cc)
gen_asks audits program from bindings readings gen = absurd (cc)

pub compiled_asks : (asked : Asked) → is_gen asked.mode ≡ true → (readings : Readings) (bytes : List ℕ) (answer : Result CheckedProgram Refusal) → asked_of (meaning_of_compiled asked readings bytes answer) ≡ []
compiled_asks asked gen readings bytes (Err why) = refl
compiled_asks asked gen readings bytes (Ok program) = gen_asks (doing asked.mode) program asked.from asked.bindings readings gen

-- the generated program is run
pub of_generated : (asked : Asked) → is_gen asked.mode ≡ true → (readings : Readings) → meaning_of_asked asked readings ≡ meaning_of_generated asked readings
of_generated asked gen readings = ap (λ (b : Bool). if b then meaning_of_generated asked readings else meaning_of_file asked readings) gen

pub generated_asks : (asked : Asked) → is_gen asked.mode ≡ true → (readings : Readings) → asked_of (meaning_of_asked asked readings) ≡ []
generated_asks asked gen readings =
    ap (λ (m : Meaning). asked_of m) (of_generated asked gen readings) ∙ compiled_asks asked gen readings (generated_text asked.number) (compiled_program (generated_text asked.number))

front_none : (xs ys : List (List ℕ)) → xs ++ ys ≡ [] → xs ≡ []
front_none [] ys h = refl
front_none (x ∷ xs) ys h = absurd (cc)

pub names_meant : (m : Meaning) → names_in (moves_of m) ≡ asked_of m
names_meant m = names_append m.moves (writing m.line) ∙ ap (λ (names : List (List ℕ)). asked_of m ++ names) (unread m.line) ∙ append-nil (asked_of m)

front_names : (m : Meaning) (did : List Move) (part : List ℕ) (answer : ℕ) → asked_of m ≡ [] → IsFront m did part answer → names_in did ≡ []
front_names m did part answer none front =
    front_none (names_in did) (names_in front.left) (sym (names_append did front.left) ∙ ap (λ (moves : List Move). names_in moves) (sym front.whole) ∙ names_meant m ∙ none)

-- if a meaning asks for no file, none was read
pub no_names : (m : Meaning) (did : List Move) (part : List ℕ) (result : Result Done (Stop PutFailed)) → asked_of m ≡ [] → Follows m did part result → names_in did ≡ []
no_names m did part (Ok done) none follows = ap (λ (moves : List Move). names_in moves) follows.0.all ∙ names_meant m ∙ none
no_names m did part (Err why) none front = front_names m did part _ none front

nothing_made : (made : List ReadMade) → names_of made ≡ [] → made ≡ []
nothing_made [] none = refl
nothing_made (read ∷ made) none = absurd (cc)

-- so it doesn't count how many reads came before
pub went_unread : (m : Readings → Meaning) (n k : ℕ) (before after : Outside) (result : Result Done (Stop PutFailed)) → ((readings : Readings) → asked_of (m readings) ≡ [])
    → Went m n before after result → Went m k before after result
went_unread m n k before after result none went =
    let own = went.follows (readings_of n went.made) (agree_own n went.made) in
    let names : names_in went.did ≡ [] = no_names (m (readings_of n went.made)) went.did went.part result (none (readings_of n went.made)) own in
    let made : went.made ≡ [] = nothing_made went.made (sym went.names ∙ names) in
    record {
      made = [];
      did = went.did;
      part = went.part;
      names = names;
      grew = went.grew;
      follows = λ readings agree. went.follows readings (subst (λ (ms : List ReadMade). Agree readings n ms) (sym made) tt);
      ends = subst (λ (ms : List ReadMade). ReadsEnd before after ms result) made went.ends;
    }

-- the generated program is run without a journal
pub no_journal : (what : Doing) → is_generated what ≡ true → is_journal what ≡ false
no_journal (performs shown) gen = absurd (cc)
no_journal generates gen = refl
no_journal looks gen = absurd (cc)
no_journal writes_code gen = absurd (cc)
no_journal audits gen = absurd (cc)

-- the generated program was run
pub generated_went : (asked : Asked) (bytes : List ℕ) (before after : Outside) (result : Result Done (Stop PutFailed)) → is_gen asked.mode ≡ true → bytes ≡ generated_text asked.number
    → Went (λ readings. meaning_of_compiled asked readings bytes (compiled_program bytes)) 1 before after result → Went (meaning_of_asked asked) 0 before after result
generated_went asked bytes before after result gen same went =
    went_same (meaning_of_asked asked) (λ readings. meaning_of_compiled asked readings bytes (compiled_program bytes)) 0 before after result
    (λ readings. of_generated asked gen readings ∙ ap (λ (bs : List ℕ). meaning_of_compiled asked readings bs (compiled_program bs)) (sym same))
    (went_unread (λ readings. meaning_of_compiled asked readings bytes (compiled_program bytes)) 1 0 before after result (λ readings. compiled_asks asked gen readings bytes (compiled_program bytes)) went)

-- it means what a file with its text means, but that no file is asked for
pub generated_is_text : (workers number : ℕ) (file : List ℕ) (readings : Readings) → readings 1 file most_file_bytes ≡ Bytes (generated_text number)
    → meaning_of_asked (record { workers = workers; mode = mode.Run; file = file; from = None; bindings = []; number = 0 }) readings
    ≡ asking_for file (meaning_of_asked (record { workers = workers; mode = mode.Gen; file = []; from = None; bindings = []; number = number }) readings)
generated_is_text workers number file readings holds =
    ap (λ (given : Reading). asking_for file (meaning_of_source of_file readings given)) holds ∙ ap (λ (m : Meaning). asking_for file m) (by_answer (compiled_program (generated_text number)))
  where
    of_file : Asked
    of_file = record { workers = workers; mode = mode.Run; file = file; from = None; bindings = []; number = 0 }

    of_number : Asked
    of_number = record { workers = workers; mode = mode.Gen; file = []; from = None; bindings = []; number = number }

    by_answer : (answer : Result CheckedProgram Refusal) → meaning_of_compiled of_file readings (generated_text number) answer ≡ meaning_of_compiled of_number readings (generated_text number) answer
    by_answer (Err why) = refl
    by_answer (Ok program) = refl
