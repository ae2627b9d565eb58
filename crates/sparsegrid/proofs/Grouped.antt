-- Runs of a group, as the tasks of a program mean them.
use Rattle.std.proofs.Common.{◌≡◌, ℕ, zero, suc, ◌+◌, ◌<◌, List, [], ◌∷◌, ◌++◌, map, length, Option, Some, None, Result, Ok, Err, refl, sym, ap, ◌∙◌, subst, arith, append-nil, append_assoc}
use Rattle.std.specs.List.{cons_option}
use Rattle.std.specs.Prelude.{Contains, slice_get}
use Rattle.sg_words.proofs.Uses.{contains_head, contains_rest}
use Rattle.sg_outside.specs.Files.{Missing}
use Rattle.sg_flat.specs.declared.effects.RunFault.{RunFault}
use Rattle.sg_flat.specs.declared.state.FlatState.{FlatState}
use Rattle.sg_flat.specs.State.{IsFlat}
use Rattle.sg_store.specs.StoreWords.{StoreWords}
use Rattle.sg_ir.specs.declared.code.KernelCode.{KernelCode}
use Rattle.sg_exec.specs.Running.{run_meaning}
use Rattle.sg_exec.specs.Standing.{StandForState}
use Rattle.sg_batch.specs.declared.fault.BatchFault.{BatchFault}
use Rattle.sg_batch.specs.Batches.{GroupEnd, end_after, group_end, members}
use Rattle.sg_batch.specs.steps.Passing.{FlatAlong}
use Rattle.sg_session.specs.declared.refusal.RunRefusal.{RunRefusal}
use Rattle.sg_session.specs.declared.refusal.RunRefusal.TheVariants as refusal
use Rattle.sg_session.specs.declared.binds.Bind.{Bind}
use Rattle.sg_session.specs.declared.tasks.Task.{Task}
use Rattle.sg_session.specs.declared.tasks.Task.TheVariants.{Run}
use Rattle.sg_session.specs.Compiled.{CheckedProgram, CompiledProgram, Compiles}
use Rattle.sg_session.specs.Commands.{Left, task_meaning, after_code, run_made}
use Rattle.sg_session.specs.Bindings.{binding_read}
use Rattle.sg_session.proofs.Uses.{compiling_keeps_tasks}
use Rattle.sparsegrid.specs.Telling.{Telling}
use Rattle.sg_outside.specs.Sink.{followed_by}
use Rattle.sparsegrid.specs.Moves.{Move, Reaches, Reached, reaching, names_in, pieces_in, text_in}
use Rattle.sparsegrid.specs.Meaning.{Meaning, Readings, at_state, after_moves, after_task, meaning_of_tasks}
use Rattle.sparsegrid.specs.Outcome.{Outside, Made, told_more, counted_more}
use Rattle.sparsegrid.specs.steps.Along.{Came}
use Rattle.sparsegrid.proofs.Going.{stays_same}
use Rattle.sparsegrid.proofs.Writing.{made_none, made_twice, names_append}
use Rattle.sparsegrid.proofs.Tasks.{tasks_step}

at_below : {X : Type 0} (xs : List X) (i : ℕ) → i < length xs → (x : X) × (slice_get xs i ≡ Some x)
at_below [] i below = absurd (omega (arith, below))
at_below (x ∷ xs) zero below = (x, refl)
at_below (x ∷ xs) (suc i) below = at_below xs i (omega (arith, below))

module _ (program : CheckedProgram) (other : CompiledProgram) (compiles : Compiles program other) (binds : List Bind) (telling : Telling) (quiet : (number : ℕ) → telling.each number [] ≡ []) where
  abbrev means : Readings → ℕ → ℕ → FlatState → List Task → Meaning
  means readings number n state tasks = meaning_of_tasks program (map binding_read binds) telling readings number n state tasks

  abbrev runs : List ℕ → List Task
  runs group = map (λ number. Run number) group

  -- these are numbers of kernels
  abbrev AreThere : List ℕ → Type 0
  AreThere group = (number : ℕ) → Contains group number → number < length other.kernels

  run_means : (state : FlatState) (kernel : ℕ) (code : KernelCode) → IsFlat other.layouts state → slice_get other.kernels kernel ≡ Some code
      → task_meaning program state (Run kernel) Missing ≡ run_made kernel (run_meaning other.layouts state code)
  run_means state kernel code flat there =
      sym (compiling_keeps_tasks program other compiles state flat (Run kernel) Missing)
      ∙ ap (λ (found : Option KernelCode). run_made kernel (after_code other.layouts state found)) there

  -- states are come to, and nothing else is done
  abbrev pub reaches : List Reached → List Move
  reaches passed = map (λ at. Reaches at) passed

  regrouped : (one two : List Move) (m : Meaning) → after_moves one (after_moves two m) ≡ after_moves (one ++ two) m
  regrouped one two m = ap (λ (moves : List Move). let n : Meaning = record { moves = moves; line = m.line; status = m.status; last = m.last } in n) (sym (append_assoc one two m.moves))

  reaches_unread : (passed : List Reached) → names_in (reaches passed) ≡ []
  reaches_unread [] = refl
  reaches_unread (at ∷ passed) = reaches_unread passed

  reaches_text : (passed : List Reached) → text_in (reaches passed) ≡ []
  reaches_text [] = refl
  reaches_text (at ∷ passed) = reaches_text passed

  reaches_pieces : (passed : List Reached) → pieces_in (reaches passed) ≡ []
  reaches_pieces [] = refl
  reaches_pieces (at ∷ passed) = reaches_pieces passed

  reaches_made : (passed : List Reached) (now : Outside) → Made (reaches passed) [] now now
  reaches_made passed now =
      let none = made_none now now (stays_same now.output) refl refl in
      record {
        output = record {
          written = none.output.written ∙ ap (λ (text : List ℕ). followed_by now.output.written (text ++ [])) (sym (reaches_text passed));
          pieces = none.output.pieces ∙ ap (told_more now.output.pieces) (sym (reaches_pieces passed));
        };
        asked = none.asked ∙ ap (told_more now.asked) (sym (reaches_unread passed));
        reads = none.reads ∙ ap (counted_more now.reads) (sym (reaches_unread passed));
      }

  -- a run that is done says nothing, and what follows is at the state that it leaves
  one_done : (readings : Readings) (number n : ℕ) (state : FlatState) (kernel : ℕ) (code : KernelCode) (next : FlatState) (rest : List Task) → IsFlat other.layouts state → slice_get other.kernels kernel ≡ Some code
      → run_meaning other.layouts state code ≡ Ok next → means readings number n state (Run kernel ∷ rest) ≡ after_moves (Reaches (at_state program next) ∷ []) (means readings (suc number) n next rest)
  one_done readings number n state kernel code next rest flat there ran =
      tasks_step program binds telling readings number n state (Run kernel) rest
      ∙ ap (λ (a : Result Left RunRefusal). after_task program telling number state None (Run kernel) (λ following. means readings (suc number) n following rest) a)
      (run_means state kernel code flat there ∙ ap (run_made kernel) ran)
      ∙ ap (λ (text : List ℕ). after_moves (reaching text (at_state program next)) (means readings (suc number) n next rest)) (quiet number)

  next_members : (kernel : ℕ) (group : List ℕ) (code : KernelCode) → slice_get other.kernels kernel ≡ Some code → members other.kernels (kernel ∷ group) ≡ code ∷ members other.kernels group
  next_members kernel group code there = ap (λ (found : Option KernelCode). cons_option found (members other.kernels group)) there

  -- where a group ended
  abbrev ended : FlatState → Option BatchFault → GroupEnd
  ended state refused = record { state = state; refused = refused }

  -- all runs of a group are done: their states are come to
  pub record AllDone (group : List ℕ) (state end : FlatState) : Type 0 where
    pub passed : List Reached
    pub means_is : (readings : Readings) (number n : ℕ) (rest : List Task) →
        means readings number n state (runs group ++ rest) ≡ after_moves (reaches passed) (means readings (length group + number) n end rest)

  pub all_runs : (at : ℕ) (group : List ℕ) (state end : FlatState) → AreThere group → FlatAlong other.layouts state (members other.kernels group)
      → group_end other.layouts at state (members other.kernels group) ≡ ended end None → AllDone group state end
  all_runs at [] state end there flat is = record {
    passed = [];
    means_is = λ readings number n rest.
        let count : number ≡ 0 + number = omega arith in
        ap (λ (e : GroupEnd). means readings number n e.state rest) is ∙ ap (λ (k : ℕ). means readings k n end rest) count;
  }
  all_runs at (kernel ∷ group) state end there flat is =
      by (λ next along_next is_next. all_runs (suc at) group next end (λ it has. there it (contains_rest it kernel group has)) along_next is_next) (run_meaning other.layouts state code) refl
    where
      code : KernelCode
      code = (at_below other.kernels kernel (there kernel (contains_head kernel kernel group refl))).0

      found : slice_get other.kernels kernel ≡ Some code
      found = (at_below other.kernels kernel (there kernel (contains_head kernel kernel group refl))).1

      along : FlatAlong other.layouts state (code ∷ members other.kernels group)
      along = subst (FlatAlong other.layouts state) (next_members kernel group code found) flat

      whole : group_end other.layouts at state (code ∷ members other.kernels group) ≡ ended end None
      whole = ap (group_end other.layouts at state) (sym (next_members kernel group code found)) ∙ is

      by : ((next : FlatState) → FlatAlong other.layouts next (members other.kernels group) → group_end other.layouts (suc at) next (members other.kernels group) ≡ ended end None → AllDone group next end)
          → (meaning : Result FlatState RunFault) → run_meaning other.layouts state code ≡ meaning → AllDone (kernel ∷ group) state end
      by later (Ok next) ran =
          let done = later next (along.1 next ran) (sym (ap (end_after at state (λ after. group_end other.layouts (suc at) after (members other.kernels group))) ran) ∙ whole) in
          record {
            passed = at_state program next ∷ done.passed;
            means_is = λ readings number n rest.
                let count : length group + suc number ≡ suc (length group) + number = omega arith in
                one_done readings number n state kernel code next (runs group ++ rest) along.0 found ran
                ∙ ap (after_moves (Reaches (at_state program next) ∷ [])) (done.means_is readings (suc number) n rest)
                ∙ regrouped (Reaches (at_state program next) ∷ []) (reaches done.passed) (means readings (length group + suc number) n end rest)
                ∙ ap (λ (k : ℕ). after_moves (reaches (at_state program next ∷ done.passed)) (means readings k n end rest)) count;
          }
      by later (Err fault) ran =
          let none : Some (record { at = at; fault = fault }) ≡ None =
          ap (λ (e : GroupEnd). e.refused) (sym (ap (end_after at state (λ after. group_end other.layouts (suc at) after (members other.kernels group))) ran) ∙ whole) in
          absurd (cc (none))

  -- the first run of a group that is refused
  pub record StoppedAt (at : ℕ) (state : FlatState) (group : List ℕ) (end : FlatState) (fault : BatchFault) : Type 0 where
    pub before : List ℕ
    pub kernel : ℕ
    pub later : List ℕ
    pub split : group ≡ before ++ kernel ∷ later
    pub place : fault.at ≡ at + length before
    pub means_refused : task_meaning program end (Run kernel) Missing ≡ Err (refusal.Run (Some kernel) fault.fault)
    pub passed : List Reached
    pub means_is : (readings : Readings) (number n : ℕ) (rest : List Task) →
        means readings number n state (runs group ++ rest) ≡ after_moves (reaches passed) (means readings (length before + number) n end (Run kernel ∷ runs later ++ rest))

  pub stopped_at : (at : ℕ) (group : List ℕ) (state end : FlatState) (fault : BatchFault) → AreThere group → FlatAlong other.layouts state (members other.kernels group)
      → group_end other.layouts at state (members other.kernels group) ≡ ended end (Some fault) → StoppedAt at state group end fault
  stopped_at at [] state end fault there flat is =
      let none : None ≡ Some fault = ap (λ (e : GroupEnd). e.refused) is in
      absurd (cc (none))
  stopped_at at (kernel ∷ group) state end fault there flat is =
      by (λ next along_next is_next. stopped_at (suc at) group next end fault (λ it has. there it (contains_rest it kernel group has)) along_next is_next) (run_meaning other.layouts state code) refl
    where
      code : KernelCode
      code = (at_below other.kernels kernel (there kernel (contains_head kernel kernel group refl))).0

      found : slice_get other.kernels kernel ≡ Some code
      found = (at_below other.kernels kernel (there kernel (contains_head kernel kernel group refl))).1

      along : FlatAlong other.layouts state (code ∷ members other.kernels group)
      along = subst (FlatAlong other.layouts state) (next_members kernel group code found) flat

      whole : group_end other.layouts at state (code ∷ members other.kernels group) ≡ ended end (Some fault)
      whole = ap (group_end other.layouts at state) (sym (next_members kernel group code found)) ∙ is

      after : (meaning : Result FlatState RunFault) → run_meaning other.layouts state code ≡ meaning → end_after at state (λ next. group_end other.layouts (suc at) next (members other.kernels group)) meaning ≡ ended end (Some fault)
      after meaning ran = sym (ap (end_after at state (λ next. group_end other.layouts (suc at) next (members other.kernels group))) ran) ∙ whole

      by : ((next : FlatState) → FlatAlong other.layouts next (members other.kernels group) → group_end other.layouts (suc at) next (members other.kernels group) ≡ ended end (Some fault) → StoppedAt (suc at) next group end fault)
          → (meaning : Result FlatState RunFault) → run_meaning other.layouts state code ≡ meaning → StoppedAt at state (kernel ∷ group) end fault
      by further (Ok next) ran =
          let stopped = further next (along.1 next ran) (after (Ok next) ran) in
          record {
            before = kernel ∷ stopped.before;
            kernel = stopped.kernel;
            later = stopped.later;
            split = ap (λ (list : List ℕ). kernel ∷ list) stopped.split;
            place = let is_place = stopped.place in omega (arith, is_place);
            means_refused = stopped.means_refused;
            passed = at_state program next ∷ stopped.passed;
            means_is = λ readings number n rest.
                let count : length stopped.before + suc number ≡ suc (length stopped.before) + number = omega arith in
                one_done readings number n state kernel code next (runs group ++ rest) along.0 found ran
                ∙ ap (after_moves (Reaches (at_state program next) ∷ [])) (stopped.means_is readings (suc number) n rest)
                ∙ regrouped (Reaches (at_state program next) ∷ []) (reaches stopped.passed) (means readings (length stopped.before + suc number) n end (Run stopped.kernel ∷ runs stopped.later ++ rest))
                ∙ ap (λ (k : ℕ). after_moves (reaches (at_state program next ∷ stopped.passed)) (means readings k n end (Run stopped.kernel ∷ runs stopped.later ++ rest))) count;
          }
      by further (Err why) ran =
          let here = after (Err why) ran in
          let same : state ≡ end = ap (λ (e : GroupEnd). e.state) here in
          let told : record { at = at; fault = why } ≡ fault = some_same _ _ (ap (λ (e : GroupEnd). e.refused) here) in
          record {
            before = [];
            kernel = kernel;
            later = group;
            split = refl;
            place = let is_at : at ≡ fault.at = ap (λ (f : BatchFault). f.at) told in omega (arith, is_at);
            means_refused = subst (λ (s : FlatState). task_meaning program s (Run kernel) Missing ≡ Err (refusal.Run (Some kernel) fault.fault)) same
                (run_means state kernel code along.0 found ∙ ap (run_made kernel) ran ∙ ap (λ (f : BatchFault). let r : Result Left RunRefusal = Err (refusal.Run (Some kernel) f.fault) in r) told);
            passed = [];
            means_is = λ readings number n rest.
                let count : number ≡ 0 + number = omega arith in
                ap (λ (s : FlatState). means readings number n s (Run kernel ∷ runs group ++ rest)) same ∙ ap (λ (k : ℕ). means readings k n end (Run kernel ∷ runs group ++ rest)) count;
          }
        where
          some_same : (x y : BatchFault) → Some x ≡ Some y → x ≡ y
          some_same x y e = ap (λ (o : Option BatchFault). or_first x o) e
            where
              or_first : BatchFault → Option BatchFault → BatchFault
              or_first d None = d
              or_first d (Some z) = z

  -- the tasks came further, without a word
  pub came_further : (earlier : ℕ) (start : FlatState) (tasks : List Task) (number : ℕ) (rest : List Task) (more : ℕ) (rest' : List Task) (end : FlatState) (stores stores' : List StoreWords) (before now : Outside)
      → (came : Came program (map binding_read binds) telling earlier start tasks number rest stores before now) → StandForState program.layouts stores' end → (passed : List Reached)
      → ((readings : Readings) (n : ℕ) → means readings number n came.state rest ≡ after_moves (reaches passed) (means readings (more + number) n end rest'))
      → Came program (map binding_read binds) telling earlier start tasks (more + number) rest' stores' before now
  came_further earlier start tasks number rest more rest' end stores stores' before now came stand passed is = record {
    made = came.made;
    did = came.did ++ reaches passed;
    state = end;
    stand = stand;
    names = names_append came.did (reaches passed) ∙ ap (λ (names : List (List ℕ)). names_in came.did ++ names) (reaches_unread passed) ∙ append-nil (names_in came.did) ∙ came.names;
    grew = made_twice came.did (reaches passed) [] before now now came.grew (reaches_made passed now);
    held = came.held;
    none = came.none;
    is = λ readings agree.
        came.is readings agree ∙ ap (after_moves came.did) (is readings (length came.made + earlier)) ∙ regrouped came.did (reaches passed) (means readings (more + number) (length came.made + earlier) end rest');
  }

  -- they are at the state that was come to
  pub came_on : (earlier : ℕ) (start : FlatState) (tasks : List Task) (number : ℕ) (rest : List Task) (more : ℕ) (rest' : List Task) (end : FlatState) (stores stores' : List StoreWords) (before now : Outside)
      → (came : Came program (map binding_read binds) telling earlier start tasks number rest stores before now) → StandForState program.layouts stores' end → (passed : List Reached)
      → ((readings : Readings) (n : ℕ) → means readings number n came.state rest ≡ after_moves (reaches passed) (means readings (more + number) n end rest'))
      → (further : Came program (map binding_read binds) telling earlier start tasks (more + number) rest' stores' before now) × (further.state ≡ end)
  unfolding came_further
  came_on earlier start tasks number rest more rest' end stores stores' before now came stand passed is =
      (came_further earlier start tasks number rest more rest' end stores stores' before now came stand passed is, refl)
