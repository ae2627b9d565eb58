use Rattle.std.proofs.Common.{refl, ap, sym, ◌≡◌, ◌∙◌, List, map, Some, None, arith}
use Rattle.std.specs.Prelude.{find}
use Rattle.sg_session.specs.declared.tasks.Stage.{Stage}
use Rattle.sg_session.specs.declared.tasks.Task.{Task}
use Rattle.sg_session.specs.Compiled.{IsTask, unfolded_tasks}
use Rattle.sg_session.specs.Bindings.{binding_read}
use Rattle.sparsegrid.specs.Telling.{telling_of, shows_journal}
use Rattle.sparsegrid.specs.Words.{asked_by}
use Rattle.sparsegrid.specs.Lines.{no_file_last, field_text}
use Rattle.sparsegrid.specs.Meaning.{refused_before_tasks, begun, meaning_of_run, meaning_from, is_unbound}
use Rattle.sparsegrid.proofs.Bound.{holds_of_found}
use Rattle.sparsegrid.proofs.Going.{stays_same}
use Rattle.sparsegrid.proofs.Kept.{kept_same, kept_memory, kept_refused}
use Rattle.sparsegrid.proofs.Sources.{run_ends, run_unbound, same_first, line_named}
use Rattle.sparsegrid.proofs.perform.perform.Goals as goal

pub refuse_unbound-requires : goal.refuse_unbound-requires
refuse_unbound-requires g c =
    let test = is_unbound c.args.compiled.names (map binding_read c.args.asked.now.binds.list) in
    holds_of_found (IsTask c.args.compiled) test c.in-Ok.tasks c.in-Some.task (c.in-Some.ensures ∙ ap (find test) c.as_slice.ensures) c.in-Ok.ensures.there

pub returns-in-Some-clause-went : goal.returns-in-Some-clause-went
returns-in-Some-clause-went g c = λ program compiles.
    let bindings = map binding_read c.args.asked.now.binds.list in
    let tasks = unfolded_tasks program.commands in
    let telling = telling_of program.names program.layouts c.args.what in
    let from = (asked_by c.args.asked.now).from in
    let last = no_file_last (field_text program.names c.in-Some.task) in
    let found = same_first program c.args.compiled bindings c.as_slice.result.now (Some c.in-Some.task) compiles (c.as_slice.ensures ∙ c.in-Ok.ensures.tasks) c.in-Some.ensures in
    kept_same (shows_journal c.args.what) (λ readings. meaning_of_run program telling from bindings readings tasks) (λ readings. refused_before_tasks last) 1 _ _ c.refuse_unbound.result
    (λ readings. run_unbound program telling from bindings readings tasks (Some c.in-Some.task) found)
    (kept_refused (shows_journal c.args.what) last 1 _ _ c.refuse_unbound.result (line_named program c.args.compiled c.in-Some.task _ _ c.refuse_unbound.result compiles c.refuse_unbound.ensures.sends)
    c.refuse_unbound.ensures.status c.refuse_unbound.ensures.session (λ two. absurd (omega arith)) refl refl refl)

pub returns-in-None-clause-went : goal.returns-in-None-clause-went
returns-in-None-clause-went g c = λ program compiles.
    let bindings = map binding_read c.args.asked.now.binds.list in
    let tasks = unfolded_tasks program.commands in
    let telling = telling_of program.names program.layouts c.args.what in
    let from = (asked_by c.args.asked.now).from in
    let found = same_first program c.args.compiled bindings c.as_slice.result.now None compiles (c.as_slice.ensures ∙ c.in-Ok.ensures.tasks) c.in-None.ensures in
    let same : unfolded_tasks program.commands ≡ c.as_slice-in-None.result.now = sym (c.as_slice-in-None.ensures ∙ (c.in-Ok.ensures.tasks ∙ ap (λ (ss : List Stage). unfolded_tasks ss) compiles.commands)) in
    kept_same (shows_journal c.args.what) (λ readings. meaning_of_run program telling from bindings readings tasks)
    (λ readings. begun program from readings (λ reads state. meaning_from program bindings telling readings reads state c.as_slice-in-None.result.now)) 1 _ _ c.perform_bound.result
    (λ readings. run_unbound program telling from bindings readings tasks None found
    ∙ ap (λ (ts : List Task). begun program from readings (λ reads state. meaning_from program bindings telling readings reads state ts)) same)
    (c.perform_bound.ensures.went program compiles)

pub returns-in-Err-clause-went : goal.returns-in-Err-clause-went
returns-in-Err-clause-went g c = λ program compiles.
    let bindings = map binding_read c.args.asked.now.binds.list in
    let tasks = unfolded_tasks program.commands in
    let telling = telling_of program.names program.layouts c.args.what in
    let from = (asked_by c.args.asked.now).from in
    kept_memory (shows_journal c.args.what) (λ readings. meaning_of_run program telling from bindings readings tasks) 1 _ _ (λ readings. run_ends program telling from bindings readings tasks) (stays_same _) refl refl refl
