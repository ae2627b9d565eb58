-- Where nothing is refused, a run means what its commands leave, one after the other.
use Rattle.std.proofs.Common.{◌≡◌, ℕ, suc, ◌+◌, Bool, false, List, [], ◌∷◌, ◌++◌, Option, Some, None, Result, Ok, Err, refl, sym, ap, ◌∙◌, append_assoc, arith}
use Rattle.std.specs.Prelude.{find, if◌then◌else◌, is_none}
use Rattle.std.specs.List.{flat_map}
use Rattle.sg_words.specs.Results.{◌>>=◌}
use Rattle.sg_outside.specs.Files.{Reading, Missing}
use Rattle.sg_grid.specs.Limits.{most_grid_bytes}
use Rattle.sg_flat.specs.declared.state.FlatState.{FlatState}
use Rattle.sg_flat.specs.declared.effects.RunFault.{RunFault}
use Rattle.sg_flat.specs.declared.effects.RunFault.TheVariants.{WriteOutside, PoolFull}
use Rattle.sg_flat.specs.State.{opening}
use Rattle.sg_names.specs.Tables.{Tables}
use Rattle.sg_session.specs.declared.refusal.RunRefusal.{RunRefusal}
use Rattle.sg_session.specs.declared.refusal.RunRefusal.TheVariants as refusal
use Rattle.sg_session.specs.declared.tasks.Task.{Task}
use Rattle.sg_session.specs.declared.tasks.Task.TheVariants.{Load, Run, Dump, Image, Stats, Prune, Clear}
use Rattle.sg_session.specs.Bindings.{Binding, file_of_field, file_of_task}
use Rattle.sg_session.specs.Compiled.{CheckedProgram, unfolded_tasks}
use Rattle.sg_session.specs.Commands.{Left, task_meaning}
use Rattle.sg_session.specs.Independence.{left_by, left_by_program, last_after}
use Rattle.sparsegrid.specs.Lines.{fault_last, run_last}
use Rattle.sparsegrid.specs.declared.showing.Showing.TheVariants.{Texts}
use Rattle.sparsegrid.specs.Telling.{Telling, telling_of}
use Rattle.sparsegrid.specs.Moves.{Move, Reached, pieces_of, writing, reaching, pieces_in, text_in}
use Rattle.sparsegrid.specs.Meaning.{Meaning, moves_of, text_meant, after_moves, Readings, is_unbound, at_state, after_task, task_and_more, meaning_of_tasks, meaning_unless, meaning_of_run}
use Rattle.sparsegrid.specs.Independence.{reading_behind, reads_with, told_from, told, IsWhatIsLeft, MeaningIsOfCommands}
use Rattle.sparsegrid.proofs.Writing.{pieces_append, text_append, text_reaching, pieces_reaching}
use Rattle.sg_session.proofs.Uses.{bound_ok}

-- a refused command has a status other than 0
fault_status : (names : Tables) (kernel : Option ℕ) (fault : RunFault) → (fault_last names kernel fault).status ≡ 0 → ⊥
fault_status names kernel (WriteOutside stmt at) e = cc
fault_status names kernel (PoolFull layout node cap) e = cc

run_status : (names : Tables) (file : Option (List ℕ)) (task : Task) (why : RunRefusal) → (run_last names file task why).status ≡ 0 → ⊥
run_status names file task (refusal.Read field) e = cc
run_status names file task (refusal.GridBytes field) e = cc
run_status names file task (refusal.GridRows field) e = cc
run_status names file task (refusal.Grid field line) e = cc
run_status names file task (refusal.Run kernel fault) e = fault_status names kernel fault e

-- a text, and a state that is reached, before what else a run means
pieces_before : (text : List ℕ) (at : Reached) (m : Meaning) → pieces_in (moves_of (after_moves (reaching text at) m)) ≡ pieces_of text ++ pieces_in (moves_of m)
pieces_before text at m =
    ap (λ (moves : List Move). pieces_in moves) (append_assoc (reaching text at) m.moves (writing m.line)) ∙ pieces_append (reaching text at) (moves_of m)
    ∙ ap (λ (pieces : List (List ℕ)). pieces ++ pieces_in (moves_of m)) (pieces_reaching text at)

text_before : (text : List ℕ) (at : Reached) (m : Meaning) → text_meant (after_moves (reaching text at) m) ≡ text ++ text_meant m
text_before text at m =
    ap (λ (said : List ℕ). said ++ m.line) (text_append (reaching text at) m.moves ∙ ap (λ (t : List ℕ). t ++ text_in m.moves) (text_reaching text at)) ∙ append_assoc text (text_in m.moves) m.line

module _ (program : CheckedProgram) (bindings : List Binding) (readings : Readings) (given : ℕ → Reading) where
  abbrev telling : Telling
  telling = telling_of program.names program.layouts Texts

  -- what tasks from a state on leave, and that it is what they mean
  record Leave (place : ℕ) (tasks : List Task) (state : FlatState) (m : Meaning) : Type 0 where
    lefts : List Left
    left : left_by program given place tasks state ≡ Ok lefts
    pieces : pieces_in (moves_of m) ≡ flat_map (λ left. pieces_of left.text) lefts
    text : text_meant m ≡ flat_map (λ left. left.text) lefts
    last : m.last ≡ Some (last_after state lefts)

  by_answer : (place number : ℕ) (task : Task) (tasks : List Task) (state : FlatState) (file : Option (List ℕ)) (more : FlatState → Meaning) (answer : Result Left RunRefusal)
      → task_meaning program state task (given place) ≡ answer → ((next : FlatState) → (more next).status ≡ 0 → Leave (suc place) tasks next (more next))
      → (after_task program telling number state file task more answer).status ≡ 0 → Leave place (task ∷ tasks) state (after_task program telling number state file task more answer)
  by_answer place number task tasks state file more (Err why) is rest status = absurd (run_status program.names file task why status)
  by_answer place number task tasks state file more (Ok left) is rest status =
      let rest_left = rest left.state status in
      record {
        lefts = left ∷ rest_left.lefts;
        left = ap (λ (r : Result Left RunRefusal). r >>= (λ left. left_by program given (suc place) tasks left.state >>= (λ more. Ok (left ∷ more)))) is
            ∙ ap (λ (r : Result (List Left) RunRefusal). r >>= (λ more. Ok (left ∷ more))) rest_left.left;
        pieces = pieces_before left.text (at_state program left.state) (more left.state) ∙ ap (λ (pieces : List (List ℕ)). pieces_of left.text ++ pieces) rest_left.pieces;
        text = text_before left.text (at_state program left.state) (more left.state) ∙ ap (λ (text : List ℕ). left.text ++ text) rest_left.text;
        last = rest_left.last;
      }

  by_file : (place number reads : ℕ) (task : Task) (tasks : List Task) (state : FlatState) (more : ℕ → FlatState → Meaning) (file : Option (List ℕ)) → given place ≡ reading_behind readings reads file
      → ((next : FlatState) → (more (reads_with reads file) next).status ≡ 0 → Leave (suc place) tasks next (more (reads_with reads file) next))
      → (task_and_more program telling readings number reads state task more file).status ≡ 0 → Leave place (task ∷ tasks) state (task_and_more program telling readings number reads state task more file)
  by_file place number reads task tasks state more None is rest status =
      by_answer place number task tasks state None (more reads) (task_meaning program state task Missing) (ap (task_meaning program state task) is) rest status
  by_file place number reads task tasks state more (Some name) is rest status =
      let here = by_answer place number task tasks state (Some name) (more (suc reads)) (task_meaning program state task (readings (suc reads) name most_grid_bytes)) (ap (task_meaning program state task) is) rest status in
      record { lefts = here.lefts; left = here.left; pieces = here.pieces; text = here.text; last = here.last }

  tasks_leave : (place number reads : ℕ) (tasks : List Task) (state : FlatState) → ((i : ℕ) → given (i + place) ≡ told_from program.names bindings readings reads tasks i)
      → (meaning_of_tasks program bindings telling readings number reads state tasks).status ≡ 0 → Leave place tasks state (meaning_of_tasks program bindings telling readings number reads state tasks)
  unfolding meaning_of_tasks
  tasks_leave place number reads [] state are status = record { lefts = []; left = refl; pieces = refl; text = refl; last = refl }
  tasks_leave place number reads (task ∷ tasks) state are status =
      by_file place number reads task tasks state (λ after next. meaning_of_tasks program bindings telling readings (suc number) after next tasks) (file_of_task program.names bindings task) (ap given (omega arith) ∙ are 0)
      (λ next. tasks_leave (suc place) (suc number) (reads_with reads (file_of_task program.names bindings task)) tasks next (λ i. ap given (omega arith) ∙ are (suc i))) status

  -- if none is refused, they mean status 0
  file_whole : (number reads : ℕ) (task : Task) (state : FlatState) (more : ℕ → FlatState → Meaning) (left : Left) (file : Option (List ℕ)) → task_meaning program state task (reading_behind readings reads file) ≡ Ok left
      → (more (reads_with reads file) left.state).status ≡ 0 → (task_and_more program telling readings number reads state task more file).status ≡ 0
  file_whole number reads task state more left None is rest = ap (λ (answer : Result Left RunRefusal). (after_task program telling number state None task (more reads) answer).status) is ∙ rest
  file_whole number reads task state more left (Some name) is rest = ap (λ (answer : Result Left RunRefusal). (after_task program telling number state (Some name) task (more (suc reads)) answer).status) is ∙ rest

  tasks_whole : (place number reads : ℕ) (tasks : List Task) (state : FlatState) (lefts : List Left) → ((i : ℕ) → given (i + place) ≡ told_from program.names bindings readings reads tasks i)
      → left_by program given place tasks state ≡ Ok lefts → (meaning_of_tasks program bindings telling readings number reads state tasks).status ≡ 0
  unfolding meaning_of_tasks
  tasks_whole place number reads [] state lefts are e = refl
  tasks_whole place number reads (task ∷ tasks) state lefts are e =
      let file = file_of_task program.names bindings task in
      let here = bound_ok (task_meaning program state task (given place)) (λ (left : Left). left_by program given (suc place) tasks left.state >>= (λ more. Ok (left ∷ more))) lefts e in
      let rest = bound_ok (left_by program given (suc place) tasks here.x.state) (λ more. Ok (here.x ∷ more)) lefts here.gives in
      let given_is : given place ≡ reading_behind readings reads file = ap given (omega arith) ∙ are 0 in
      file_whole number reads task state (λ after next. meaning_of_tasks program bindings telling readings (suc number) after next tasks) here.x file (sym (ap (task_meaning program state task) given_is) ∙ here.is)
      (tasks_whole (suc place) (suc number) (reads_with reads file) tasks here.x.state rest.x (λ i. ap given (omega arith) ∙ are (suc i)) rest.is)

  -- and each load has a file
  load_bound : (reads : ℕ) (task : Task) (state : FlatState) (left : Left) → task_meaning program state task (reading_behind readings reads (file_of_task program.names bindings task)) ≡ Ok left → is_unbound program.names bindings task ≡ false
  load_bound reads (Load at) state left is = by_file_of (file_of_field program.names bindings at) is where
    by_file_of : (file : Option (List ℕ)) → task_meaning program state (Load at) (reading_behind readings reads file) ≡ Ok left → is_none file ≡ false
    by_file_of None h = absurd (cc)
    by_file_of (Some name) h = refl
  load_bound reads (Run kernel) state left is = refl
  load_bound reads (Dump at) state left is = refl
  load_bound reads (Image at lo hi) state left is = refl
  load_bound reads (Stats layout) state left is = refl
  load_bound reads (Prune layout) state left is = refl
  load_bound reads (Clear layout) state left is = refl

  loads_bound : (place reads : ℕ) (tasks : List Task) (state : FlatState) (lefts : List Left) → ((i : ℕ) → given (i + place) ≡ told_from program.names bindings readings reads tasks i)
      → left_by program given place tasks state ≡ Ok lefts → find (is_unbound program.names bindings) tasks ≡ None
  loads_bound place reads [] state lefts are e = refl
  loads_bound place reads (task ∷ tasks) state lefts are e =
      let file = file_of_task program.names bindings task in
      let here = bound_ok (task_meaning program state task (given place)) (λ (left : Left). left_by program given (suc place) tasks left.state >>= (λ more. Ok (left ∷ more))) lefts e in
      let rest = bound_ok (left_by program given (suc place) tasks here.x.state) (λ more. Ok (here.x ∷ more)) lefts here.gives in
      let given_is : given place ≡ reading_behind readings reads file = ap given (omega arith) ∙ are 0 in
      ap (λ (unbound : Bool). if unbound then Some task else find (is_unbound program.names bindings) tasks) (load_bound reads task state here.x (sym (ap (task_meaning program state task) given_is) ∙ here.is))
      ∙ loads_bound (suc place) (reads_with reads file) tasks here.x.state rest.x (λ i. ap given (omega arith) ∙ are (suc i)) rest.is

pub meaning_is_of_commands : MeaningIsOfCommands
meaning_is_of_commands program bindings readings = record { leaves = by_find (find (is_unbound program.names bindings) tasks); whole = whole } where
  tasks : List Task
  tasks = unfolded_tasks program.commands

  given : ℕ → Reading
  given = told program bindings readings

  given_is : (i : ℕ) → given (i + 0) ≡ told_from program.names bindings readings 1 tasks i
  given_is i = ap given (omega arith)

  by_find : (o : Option Task) → (meaning_unless o program (telling_of program.names program.layouts Texts) None bindings readings tasks).status ≡ 0 → (lefts : List Left) × IsWhatIsLeft program bindings readings (meaning_unless o program (telling_of program.names program.layouts Texts) None bindings readings tasks) lefts
  by_find (Some task) status = absurd (cc)
  by_find None status =
      let all = tasks_leave program bindings readings given 0 0 1 tasks (opening program.layouts) given_is status in
      (all.lefts, record { left = all.left; pieces = all.pieces; text = all.text; last = all.last })

  whole : (lefts : List Left) → left_by_program program given ≡ Ok lefts → (meaning_of_run program (telling_of program.names program.layouts Texts) None bindings readings tasks).status ≡ 0
  whole lefts e =
      ap (λ (o : Option Task). (meaning_unless o program (telling_of program.names program.layouts Texts) None bindings readings tasks).status) (loads_bound program bindings readings given 0 1 tasks (opening program.layouts) lefts given_is e)
      ∙ tasks_whole program bindings readings given 0 0 1 tasks (opening program.layouts) lefts given_is e
