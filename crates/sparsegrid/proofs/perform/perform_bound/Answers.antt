use Rattle.std.proofs.Common.{List, Some, Ok, Err, refl, sym, ap, ◌∙◌, subst, map}
use Rattle.sg_words.specs.declared.memory.Stop.TheVariants as stop
use Rattle.std.specs.Prelude.{option_map, string_bytes}
use Rattle.sg_layout.specs.declared.shape.Shape.{Shape}
use Rattle.sg_store.specs.Standing.{StandForState}
use Rattle.sg_session.specs.Compiled.{CompiledProgram}
use Rattle.sg_session.specs.Performed.{HasState}
use Rattle.sg_session.specs.Bindings.{binding_read}
use Rattle.sparsegrid.specs.Telling.{telling_of, shows_journal}
use Rattle.sparsegrid.specs.Words.{asked_by}
use Rattle.sparsegrid.specs.Meaning.{begun, meaning_from}
use Rattle.sparsegrid.specs.Outcome.{outside_of}
use Rattle.sparsegrid.proofs.Going.{stays_same}
use Rattle.sparsegrid.proofs.Kept.{kept_memory}
use Rattle.sparsegrid.proofs.Tasks.{tasks_end}
use Rattle.sparsegrid.proofs.Sources.{begun_ends}
use Rattle.sparsegrid.proofs.Beginning.{begun_opened, begun_with, begun_memory, begun_refused, was_of, sent_of, status_of_line, last_of, has_state}
use Rattle.sparsegrid.proofs.perform.perform_bound.Goals as goal

pub returns-in-Ok-clause-went : goal.returns-in-Ok-clause-went
returns-in-Ok-clause-went g c = λ program compiles.
    begun_opened (shows_journal c.args.what) program (asked_by c.args.asked.now).from c.args.compiled c.in-Ok.session
    (λ readings reads state. meaning_from program (map binding_read c.args.asked.now.binds.list) (telling_of program.names program.layouts c.args.what) readings reads state c.args.tasks.now) _ _
    c.perform_tasks.result (ap (option_map string_bytes) c.in-None.is) compiles c.in-Ok.ensures (λ same state stand. c.perform_tasks.ensures.went program same 1 state stand)

pub returns-in-Err-clause-went : goal.returns-in-Err-clause-went
returns-in-Err-clause-went g c = λ program compiles.
    let bindings = map binding_read c.args.asked.now.binds.list in
    let telling = telling_of program.names program.layouts c.args.what in
    kept_memory (shows_journal c.args.what) (λ readings. begun program (asked_by c.args.asked.now).from readings (λ reads state. meaning_from program bindings telling readings reads state c.args.tasks.now)) 1 _ _
    (λ readings. begun_ends program (asked_by c.args.asked.now).from readings (λ reads state. meaning_from program bindings telling readings reads state c.args.tasks.now)
    (λ reads state. tasks_end program bindings telling readings 0 reads state c.args.tasks.now)) (stays_same _) refl refl refl

pub invariant_of-begun : goal.invariant_of-begun
invariant_of-begun g c =
    subst (λ (shapes : List Shape). HasState shapes c.in-Ok-read_stores.stores.list) (ap (λ (p : CompiledProgram). p.layouts) c.compiled.view_is)
    (has_state c.compiled.inside.layouts.list _ _ c.in-Ok-read_stores.stores c.in-Ok-read_stores.ensures.given)

pub returns-in-Ok-read_stores-clause-went : goal.returns-in-Ok-read_stores-clause-went
returns-in-Ok-read_stores-clause-went g c = λ program compiles.
    begun_with (shows_journal c.args.what) program (asked_by c.args.asked.now).from c.as_str-name.result.now (ap (option_map string_bytes) c.in-Some.is ∙ ap Some (sym c.as_str-name.ensures.value))
    (λ readings reads state. meaning_from program (map binding_read c.args.asked.now.binds.list) (telling_of program.names program.layouts c.args.what) readings reads state c.args.tasks.now)
    c.in-Ok-read_stores.stores _ (outside_of g.F.Files g.S.Sink c.read_stores.new.files c.args.out.now) _
    (was_of c.compiled.inside.layouts.list program.layouts (g.F.Files.holds c.args.files.now) c.as_str-name.result.now (Ok c.in-Ok-read_stores.stores)
    (ap (λ (p : CompiledProgram). p.layouts) c.compiled.view_is ∙ compiles.layouts) c.in-Ok-read_stores.ensures.given)
    c.in-Ok-read_stores.ensures.asked c.in-Ok-read_stores.ensures.reads c.in-Ok-read_stores.ensures.holds (stays_same _) c.in-Ok-read_stores.ensures.cause c.perform_tasks-in-Ok-read_stores.result
    (λ state stand. c.perform_tasks-in-Ok-read_stores.ensures.went program compiles 2 state (subst (λ (shapes : List Shape). StandForState shapes c.in-Ok-read_stores.stores.list state) (sym compiles.layouts) stand))

pub returns-in-Err-Refused-clause-went : goal.returns-in-Err-Refused-clause-went
returns-in-Err-Refused-clause-went g c = λ program compiles.
    let name = c.as_str-name.result.now in
    let why = c.in-Err-Refused.why in
    let given = rw c.in-Err-Refused.field-0-is at c.in-Err-Refused.ensures.given in
    let cause = rw c.in-Err-Refused.field-0-is at c.in-Err-Refused.ensures.cause in
    let sends = rw c.in-Err-Refused.field-0-is at c.refuse_snapshot.ensures.sends in
    let status = rw c.in-Err-Refused.field-0-is at c.refuse_snapshot.ensures.status in
    let last = rw c.in-Err-Refused.field-0-is at c.refuse_snapshot.ensures.last in
    begun_refused (shows_journal c.args.what) program (asked_by c.args.asked.now).from name (ap (option_map string_bytes) c.in-Some.is ∙ ap Some (sym c.as_str-name.ensures.value))
    (λ readings reads state. meaning_from program (map binding_read c.args.asked.now.binds.list) (telling_of program.names program.layouts c.args.what) readings reads state c.args.tasks.now)
    why _ (outside_of g.F.Files g.S.Sink c.read_stores.new.files c.args.out.now) _
    (was_of c.compiled.inside.layouts.list program.layouts (g.F.Files.holds c.args.files.now) name (Err (stop.Refused why)) (ap (λ (p : CompiledProgram). p.layouts) c.compiled.view_is ∙ compiles.layouts) given)
    c.in-Err-Refused.ensures.asked c.in-Err-Refused.ensures.reads c.in-Err-Refused.ensures.holds (stays_same _) cause refl refl refl c.refuse_snapshot.result
    (sent_of program c.args.compiled name why _ _ c.refuse_snapshot.result compiles sends)
    (status_of_line program c.args.compiled name why c.refuse_snapshot.result compiles status)
    (last_of program c.args.compiled why c.refuse_snapshot.result compiles last) c.refuse_snapshot.ensures.nothing

pub returns-in-Err-Memory-clause-went : goal.returns-in-Err-Memory-clause-went
returns-in-Err-Memory-clause-went g c = λ program compiles.
    let name = c.as_str-name.result.now in
    let bindings = map binding_read c.args.asked.now.binds.list in
    let telling = telling_of program.names program.layouts c.args.what in
    let given = rw c.in-Err-Memory.field-0-is at c.in-Err-Memory.ensures.given in
    let cause = rw c.in-Err-Memory.field-0-is at c.in-Err-Memory.ensures.cause in
    begun_memory (shows_journal c.args.what) program (asked_by c.args.asked.now).from name (ap (option_map string_bytes) c.in-Some.is ∙ ap Some (sym c.as_str-name.ensures.value))
    (λ readings reads state. meaning_from program bindings telling readings reads state c.args.tasks.now) _ _
    (was_of c.compiled.inside.layouts.list program.layouts (g.F.Files.holds c.args.files.now) name (Err stop.Memory) (ap (λ (p : CompiledProgram). p.layouts) c.compiled.view_is ∙ compiles.layouts) given)
    c.in-Err-Memory.ensures.asked c.in-Err-Memory.ensures.reads c.in-Err-Memory.ensures.holds (stays_same _) cause
    (λ readings state. tasks_end program bindings telling readings 0 2 state c.args.tasks.now)
