use Rattle.std.proofs.Common.{◌+◌, suc, length, drop, get_or, ap, ◌∙◌, refl, subst, sym, arith, map, List, ℕ, Err, Ok}
use Rattle.std.specs.List.{AllByRecursion}
use Rattle.sg_words.specs.declared.memory.Stop.TheVariants as stop
use Rattle.sg_flat.specs.declared.state.FlatState.{FlatState}
use Rattle.sg_store.specs.StoreWords.{StoreWords}
use Rattle.sg_session.specs.declared.binds.Bind.{Bind}
use Rattle.sg_session.specs.declared.tasks.Task.{Task}
use Rattle.sg_session.specs.Compiled.{CheckedProgram, CompiledProgram, Compiles, IsTask}
use Rattle.sg_session.specs.Bindings.{binding_read, file_of_task}
use Rattle.sg_session.specs.Performed.{SessionParts, HasFile}
use Rattle.sparsegrid.specs.Telling.{Telling, telling_of}
use Rattle.sparsegrid.specs.Outcome.{Outside, output_of, outside_of}
use Rattle.sparsegrid.specs.steps.Along.{Came, PutsText, Sends}
use Rattle.sparsegrid.proofs.Advancing.{advanced_end, all_here, drop_by, ended_cause, ended_status}
use Rattle.sparsegrid.proofs.Bound.{split_at}
use Rattle.sparsegrid.proofs.Going.{stays_same}
use Rattle.sparsegrid.proofs.Tasks.{came_next, cut_in_send, cut_in_step, ended_in_task, stepped, has_head, line_of, line_status_of}
use Rattle.sparsegrid.proofs.drive.perform_one.Goals as goal

-- one more task was performed
counted : (program : CheckedProgram) (binds : List Bind) (telling : Telling) (earlier : ℕ) (start : FlatState) (tasks : List Task) (number : ℕ) (rest : List Task) (stores : List StoreWords) (before now : Outside)
    → Came program (map binding_read binds) telling earlier start tasks (suc number) rest stores before now → Came program (map binding_read binds) telling earlier start tasks (number + 1) rest stores before now
counted program binds telling earlier start tasks number rest stores before now came =
    subst (λ (n : ℕ). Came program (map binding_read binds) telling earlier start tasks n rest stores before now) (omega arith) came

pub step-requires-clause-there : goal.step-requires-clause-there
step-requires-clause-there g c = λ lifetimes outlive. all_here (IsTask c.args.session.now.compiled) c.args.tasks.now c.args.at _ c.requires.within c.requires.there

pub step-requires-clause-bound : goal.step-requires-clause-bound
step-requires-clause-bound g c = λ lifetimes outlive.
    all_here (HasFile c.args.session.now.compiled.names (map binding_read c.args.asked.now.binds.list)) c.args.tasks.now c.args.at _ c.requires.within c.requires.bound

pub refuse_task-requires : goal.refuse_task-requires
refuse_task-requires g c =
    all_here (IsTask c.session.inside.compiled) c.args.tasks.now c.args.at _ c.requires.within
    (subst (λ (p : CompiledProgram). AllByRecursion (IsTask p) c.args.tasks.now) (sym (ap (λ (s : SessionParts). s.compiled) c.session.view_is ∙ c.step.ensures.compiled)) c.requires.there)

pub returns-in-Ok-send-clause-status : goal.returns-in-Ok-send-clause-status
returns-in-Ok-send-clause-status g c = (omega arith, omega (arith, c.requires.within))

pub returns-in-Err-Refused-clause-status : goal.returns-in-Err-Refused-clause-status
returns-in-Err-Refused-clause-status g c =
    let status = rw c.in-Err-Refused.field-0-is at c.refuse_task.ensures.status in
    ended_status c.args.at (length c.args.tasks.now) c.session.inside.compiled.names
    (file_of_task c.session.inside.compiled.names (map binding_read c.args.asked.now.binds.list) (get_or c.args.tasks.now c.args.at _)) (get_or c.args.tasks.now c.args.at _) c.in-Err-Refused.refusal c.refuse_task.result c.ended.result c.ended.ensures status

pub returns-in-Err-Refused-clause-cause : goal.returns-in-Err-Refused-clause-cause
returns-in-Err-Refused-clause-cause g c = ended_cause c.refuse_task.result c.ended.result _ _ c.ended.ensures c.refuse_task.ensures.cause

pub returns-in-Ok-send-clause-advanced : goal.returns-in-Ok-send-clause-advanced
returns-in-Ok-send-clause-advanced g c = λ program compiles earlier start before came.
    let compiled = c.args.session.now.compiled in
    let binds = c.args.asked.now.binds.list in
    let tasks = c.args.tasks.now in
    let i = c.args.at in
    let split = split_at tasks i _ c.requires.within in
    counted program binds (telling_of program.names program.layouts c.args.what) earlier start tasks i (drop (i + 1) tasks) c.step.new.self.stores _ _
    (came_next program binds (telling_of program.names program.layouts c.args.what) earlier start tasks i (drop i tasks) (drop (i + 1) tasks) _ c.args.session.now.stores c.step.new.self.stores c.in-Ok.text _ _
    (outside_of g.F.Files g.S.Sink c.step.new.files c.args.out.now) _ split came
    (stepped program compiled binds came.state _ c.args.session.now.stores c.step.new.self.stores (Ok c.in-Ok.text) _ _ compiles came.stand
    (has_head program compiled binds (drop i tasks) (drop (i + 1) tasks) _ compiles split (drop_by (HasFile compiled.names (map binding_read binds)) tasks i c.requires.bound))
    c.in-Ok.ensures.told c.in-Ok.ensures.performed c.in-Ok.ensures.asked c.in-Ok.ensures.reads c.in-Ok.ensures.cause c.in-Ok.ensures.holds)
    (stays_same (output_of g.S.Sink c.args.out.now))
    (subst (λ (text : List ℕ). PutsText (output_of g.S.Sink c.args.out.now) (output_of g.S.Sink c.send.new.out) text)
    (c.told_of.ensures program.names program.layouts i ∙ ap ((telling_of program.names program.layouts c.args.what).each i) c.as_slice.ensures) c.in-Ok-send.ensures.sends) refl refl refl refl)

pub returns-in-Ok-clause-advanced : goal.returns-in-Ok-clause-advanced
returns-in-Ok-clause-advanced g c = λ program compiles earlier start before came.
    let compiled = c.args.session.now.compiled in
    let binds = c.args.asked.now.binds.list in
    let tasks = c.args.tasks.now in
    let i = c.args.at in
    let split = split_at tasks i _ c.requires.within in
    cut_in_send program binds (telling_of program.names program.layouts c.args.what) earlier start tasks i (drop i tasks) (drop (i + 1) tasks) _ c.args.session.now.stores c.step.new.self.stores c.in-Ok.text _ _
    (outside_of g.F.Files g.S.Sink c.step.new.files c.args.out.now) _ c.in-Err.why split came
    (stepped program compiled binds came.state _ c.args.session.now.stores c.step.new.self.stores (Ok c.in-Ok.text) _ _ compiles came.stand
    (has_head program compiled binds (drop i tasks) (drop (i + 1) tasks) _ compiles split (drop_by (HasFile compiled.names (map binding_read binds)) tasks i c.requires.bound))
    c.in-Ok.ensures.told c.in-Ok.ensures.performed c.in-Ok.ensures.asked c.in-Ok.ensures.reads c.in-Ok.ensures.cause c.in-Ok.ensures.holds)
    (stays_same (output_of g.S.Sink c.args.out.now))
    (subst (λ (text : List ℕ). Sends {A = Unit} (Err c.in-Err.why) (output_of g.S.Sink c.args.out.now) (output_of g.S.Sink c.send.new.out) text)
    (c.told_of.ensures program.names program.layouts i ∙ ap ((telling_of program.names program.layouts c.args.what).each i) c.as_slice.ensures) c.in-Err.ensures.sends) refl refl refl

pub returns-in-Err-Refused-clause-advanced : goal.returns-in-Err-Refused-clause-advanced
returns-in-Err-Refused-clause-advanced g c = λ program compiles earlier start before came.
    let compiled = c.args.session.now.compiled in
    let binds = c.args.asked.now.binds.list in
    let tasks = c.args.tasks.now in
    let i = c.args.at in
    let telling = telling_of program.names program.layouts c.args.what in
    let split = split_at tasks i _ c.requires.within in
    let inside = ap (λ (s : SessionParts). s.compiled.names) c.session.view_is ∙ (ap (λ (p : CompiledProgram). p.names) c.step.ensures.compiled ∙ compiles.names) in
    let told = rw c.in-Err-Refused.field-0-is at c.in-Err-Refused.ensures.told in
    let performed = rw c.in-Err-Refused.field-0-is at c.in-Err-Refused.ensures.performed in
    let cause = rw c.in-Err-Refused.field-0-is at c.in-Err-Refused.ensures.cause in
    let sends = rw c.in-Err-Refused.field-0-is at c.refuse_task.ensures.sends in
    let status = rw c.in-Err-Refused.field-0-is at c.refuse_task.ensures.status in
    advanced_end program (map binding_read binds) telling earlier start tasks c.step.new.self before _ c.refuse_task.result c.ended.result c.ended.ensures
    (ended_in_task program binds telling earlier start tasks i (drop i tasks) (drop (i + 1) tasks) _ c.args.session.now.stores c.step.new.self _ _
    (outside_of g.F.Files g.S.Sink c.step.new.files c.args.out.now) _ c.in-Err-Refused.refusal c.refuse_task.result split (subst (Compiles program) (sym c.step.ensures.compiled) compiles) came
    (stepped program compiled binds came.state _ c.args.session.now.stores c.step.new.self.stores (Err (stop.Refused c.in-Err-Refused.refusal)) _ _ compiles came.stand
    (has_head program compiled binds (drop i tasks) (drop (i + 1) tasks) _ compiles split (drop_by (HasFile compiled.names (map binding_read binds)) tasks i c.requires.bound))
    told performed c.in-Err-Refused.ensures.asked c.in-Err-Refused.ensures.reads cause c.in-Err-Refused.ensures.holds)
    c.in-Err-Refused.ensures.stays (stays_same (output_of g.S.Sink c.args.out.now))
    (line_of program.names c.session.inside.compiled.names binds _ c.in-Err-Refused.refusal c.refuse_task.result _ _ inside sends)
    (line_status_of program.names c.session.inside.compiled.names binds _ c.in-Err-Refused.refusal c.refuse_task.result inside status) refl refl refl).went

pub returns-clause-advanced : goal.returns-clause-advanced
returns-clause-advanced g c = λ program compiles earlier start before came.
    let compiled = c.args.session.now.compiled in
    let binds = c.args.asked.now.binds.list in
    let tasks = c.args.tasks.now in
    let i = c.args.at in
    let split = split_at tasks i _ c.requires.within in
    let told = rw c.in-Err-Memory.field-0-is at c.in-Err-Memory.ensures.told in
    let performed = rw c.in-Err-Memory.field-0-is at c.in-Err-Memory.ensures.performed in
    let cause = rw c.in-Err-Memory.field-0-is at c.in-Err-Memory.ensures.cause in
    cut_in_step program binds (telling_of program.names program.layouts c.args.what) earlier start tasks i (drop i tasks) (drop (i + 1) tasks) _ c.args.session.now.stores c.step.new.self.stores _ _ _ split came
    (stepped program compiled binds came.state _ c.args.session.now.stores c.step.new.self.stores (Err stop.Memory) _ _ compiles came.stand
    (has_head program compiled binds (drop i tasks) (drop (i + 1) tasks) _ compiles split (drop_by (HasFile compiled.names (map binding_read binds)) tasks i c.requires.bound))
    told performed c.in-Err-Memory.ensures.asked c.in-Err-Memory.ensures.reads cause c.in-Err-Memory.ensures.holds) (stays_same (output_of g.S.Sink c.args.out.now))
