use Rattle.std.proofs.Common.{◌+◌, suc, drop, ap, ◌∙◌, refl, subst, sym, arith, map, List, ℕ, Err, Ok}
use Rattle.std.specs.Prelude.{All}
use Rattle.std.proofs.lemmas.List.{drop_all}
use Rattle.sg_words.specs.declared.memory.Stop.TheVariants as stop
use Rattle.sg_layout.specs.declared.shape.Shape.{Shape}
use Rattle.sg_exec.specs.Standing.{StandForState}
use Rattle.sg_flat.specs.declared.state.FlatState.{FlatState}
use Rattle.sg_store.specs.StoreWords.{StoreWords}
use Rattle.sg_store.specs.WellFormed.{IsWellFormed}
use Rattle.sg_journal.specs.declared.lines.Line.{Line}
use Rattle.sg_journal.specs.Placing.{Placing}
use Rattle.sg_session.specs.declared.binds.Bind.{Bind}
use Rattle.sg_session.specs.declared.tasks.Task.{Task}
use Rattle.sg_session.specs.Compiled.{CheckedProgram, CompiledProgram, Compiles, IsTask}
use Rattle.sg_session.specs.Bindings.{binding_read}
use Rattle.sg_session.specs.Performed.{SessionParts, HasFile}
use Rattle.sparsegrid.specs.Outcome.{Outside, output_of, outside_of}
use Rattle.sparsegrid.specs.steps.Leading.{CameWithParts}
use Rattle.sparsegrid.proofs.Bound.{split_at}
use Rattle.sparsegrid.proofs.Going.{stays_same}
use Rattle.sparsegrid.proofs.Tasks.{stepped, has_head, tail_of, line_of, line_status_of}
use Rattle.sparsegrid.proofs.PartsWritten.{came_begun, came_more, cut_short, cut_at_part, refused_so, all_so}
use Rattle.sparsegrid.proofs.journaling.drive_on.Goals as goal

-- one more task was performed
counted : (program : CheckedProgram) (binds : List Bind) (earlier : ℕ) (start : FlatState) (tasks : List Task) (first : List Line) (number : ℕ) (rest : List Task) (stores : List StoreWords) (placed : Placing) (before now : Outside)
    → CameWithParts program (map binding_read binds) earlier start tasks first (suc number) rest stores placed before now → CameWithParts program (map binding_read binds) earlier start tasks first (number + 1) rest stores placed before now
counted program binds earlier start tasks first number rest stores placed before now came =
    subst (λ (n : ℕ). CameWithParts program (map binding_read binds) earlier start tasks first n rest stores placed before now) (omega arith) came

pub loop-task-init : goal.loop-task-init
loop-task-init g c = record {
  came = λ program compiles earlier start stand first begins. came_begun program c.args.asked.now.binds.list earlier start c.args.tasks.now first _ c.args.session.now.stores c.args.placed.layouts
      (subst (λ (ls : List Shape). StandForState ls c.args.session.now.stores start) compiles.layouts stand) c.requires.placed begins;
  compiled = refl;
  there = c.requires.there;
  bound = c.requires.bound;
  holds = refl;
  never_falls = omega arith;
  faults = refl;
}

pub loop-task-preserved : goal.loop-task-preserved
loop-task-preserved g c =
    let compiled = c.args.session.now.compiled in
    let binds = c.args.asked.now.binds.list in
    let tasks = c.args.tasks.now in
    let i = c.loop-task.task-index in
    let split = split_at tasks i _ c.loop-task-test.true in
    let sent = c.in-Ok-send_next.ensures.sends in
    record {
      came = λ program compiles earlier start stand first begins. let came = c.loop-task.invariant.came program compiles earlier start stand first begins in
          let here = subst (Compiles program) (sym c.loop-task.invariant.compiled) compiles in
          counted program binds earlier start tasks first i (drop (i + 1) tasks) c.step.new.self.stores c.in-Ok-send_next.next.layouts _ _
          (came_more program binds earlier start tasks first _ c.stores_change.ensures.change i (drop i tasks) (drop (i + 1) tasks) _ c.loop-task.session.stores c.step.new.self.stores c.loop-task.stand.layouts
          c.in-Ok-send_next.next.layouts c.in-Ok._text _ (outside_of g.F.Files g.S.Sink c.step.new.files c.loop-task.out) _ split came
          (stepped program c.loop-task.session.compiled binds came.state _ c.loop-task.session.stores c.step.new.self.stores (Ok c.in-Ok._text) _ _ here came.stand
          (has_head program compiled binds (drop i tasks) (drop (i + 1) tasks) _ compiles split c.loop-task.invariant.bound)
          c.in-Ok.ensures.told c.in-Ok.ensures.performed c.in-Ok.ensures.asked c.in-Ok.ensures.reads c.in-Ok.ensures.cause c.in-Ok.ensures.holds)
          (stays_same (output_of g.S.Sink c.loop-task.out)) (subst (All IsWellFormed) (ap (λ (s : SessionParts). s.stores) c.session.view_is) c.well_formed-in-loop-task.ensures) c.send_next.ensures.well_formed c.step.ensures.links sent.0 sent.2 sent.1 refl refl refl refl);
      compiled = c.step.ensures.compiled ∙ c.loop-task.invariant.compiled;
      there = tail_of (IsTask compiled) (drop i tasks) (drop (i + 1) tasks) _ split c.loop-task.invariant.there;
      bound = tail_of (HasFile compiled.names (map binding_read binds)) (drop i tasks) (drop (i + 1) tasks) _ split c.loop-task.invariant.bound;
      holds = c.step.ensures.holds ∙ c.loop-task.invariant.holds;
      never_falls = omega (arith, c.step.ensures.never_falls, c.loop-task.invariant.never_falls);
      faults = c.in-Ok-send_next.ensures.cause ∙ c.loop-task.invariant.faults;
    }

pub returns-in-Err-clause-went : goal.returns-in-Err-clause-went
returns-in-Err-clause-went g c = λ program compiles earlier start stand first begins.
    let compiled = c.args.session.now.compiled in
    let binds = c.args.asked.now.binds.list in
    let tasks = c.args.tasks.now in
    let i = c.loop-task.task-index in
    let split = split_at tasks i _ c.loop-task-test.true in
    let came = c.loop-task.invariant.came program compiles earlier start stand first begins in
    let here = subst (Compiles program) (sym c.loop-task.invariant.compiled) compiles in
    cut_at_part program binds earlier start tasks first _ c.stores_change.ensures.change i (drop i tasks) (drop (i + 1) tasks) _ c.loop-task.session.stores c.step.new.self.stores c.loop-task.stand.layouts
    c.in-Ok._text _ (outside_of g.F.Files g.S.Sink c.step.new.files c.loop-task.out) _ c.in-Err.why split came
    (stepped program c.loop-task.session.compiled binds came.state _ c.loop-task.session.stores c.step.new.self.stores (Ok c.in-Ok._text) _ _ here came.stand
    (has_head program compiled binds (drop i tasks) (drop (i + 1) tasks) _ compiles split c.loop-task.invariant.bound)
    c.in-Ok.ensures.told c.in-Ok.ensures.performed c.in-Ok.ensures.asked c.in-Ok.ensures.reads c.in-Ok.ensures.cause c.in-Ok.ensures.holds)
    (stays_same (output_of g.S.Sink c.loop-task.out)) (subst (All IsWellFormed) (ap (λ (s : SessionParts). s.stores) c.session.view_is) c.well_formed-in-loop-task.ensures) c.send_next.ensures.well_formed c.step.ensures.links c.in-Err.ensures.sends refl refl refl

pub returns-in-Err-Refused-clause-went : goal.returns-in-Err-Refused-clause-went
returns-in-Err-Refused-clause-went g c = λ program compiles earlier start stand first begins.
    let compiled = c.args.session.now.compiled in
    let binds = c.args.asked.now.binds.list in
    let tasks = c.args.tasks.now in
    let i = c.loop-task.task-index in
    let split = split_at tasks i _ c.loop-task-test.true in
    let came = c.loop-task.invariant.came program compiles earlier start stand first begins in
    let here = subst (Compiles program) (sym c.loop-task.invariant.compiled) compiles in
    let same = c.step.ensures.compiled ∙ c.loop-task.invariant.compiled in
    let inside = ap (λ (s : SessionParts). s.compiled.names) c.session-in-loop-task.view_is ∙ (ap (λ (p : CompiledProgram). p.names) same ∙ compiles.names) in
    let told = rw c.in-Err-Refused.field-0-is at c.in-Err-Refused.ensures.told in
    let performed = rw c.in-Err-Refused.field-0-is at c.in-Err-Refused.ensures.performed in
    let cause = rw c.in-Err-Refused.field-0-is at c.in-Err-Refused.ensures.cause in
    let sends = rw c.in-Err-Refused.field-0-is at c.refuse_task.ensures.sends in
    let status = rw c.in-Err-Refused.field-0-is at c.refuse_task.ensures.status in
    refused_so program binds earlier start tasks first _ i (drop i tasks) (drop (i + 1) tasks) _ c.loop-task.session.stores c.step.new.self c.loop-task.stand.layouts _
    (outside_of g.F.Files g.S.Sink c.step.new.files c.loop-task.out) _ c.in-Err-Refused.refusal c.refuse_task.result split (subst (Compiles program) (sym same) compiles) came
    (stepped program c.loop-task.session.compiled binds came.state _ c.loop-task.session.stores c.step.new.self.stores (Err (stop.Refused c.in-Err-Refused.refusal)) _ _ here came.stand
    (has_head program compiled binds (drop i tasks) (drop (i + 1) tasks) _ compiles split c.loop-task.invariant.bound)
    told performed c.in-Err-Refused.ensures.asked c.in-Err-Refused.ensures.reads cause c.in-Err-Refused.ensures.holds)
    c.in-Err-Refused.ensures.stays (stays_same (output_of g.S.Sink c.loop-task.out))
    (line_of program.names c.session-in-loop-task.inside.compiled.names binds _ c.in-Err-Refused.refusal c.refuse_task.result _ _ inside sends)
    (line_status_of program.names c.session-in-loop-task.inside.compiled.names binds _ c.in-Err-Refused.refusal c.refuse_task.result inside status) refl refl refl

pub returns-in-Err-Memory-clause-went : goal.returns-in-Err-Memory-clause-went
returns-in-Err-Memory-clause-went g c = λ program compiles earlier start stand first begins.
    let compiled = c.args.session.now.compiled in
    let binds = c.args.asked.now.binds.list in
    let tasks = c.args.tasks.now in
    let i = c.loop-task.task-index in
    let split = split_at tasks i _ c.loop-task-test.true in
    let came = c.loop-task.invariant.came program compiles earlier start stand first begins in
    let here = subst (Compiles program) (sym c.loop-task.invariant.compiled) compiles in
    let told = rw c.in-Err-Memory.field-0-is at c.in-Err-Memory.ensures.told in
    let performed = rw c.in-Err-Memory.field-0-is at c.in-Err-Memory.ensures.performed in
    let cause = rw c.in-Err-Memory.field-0-is at c.in-Err-Memory.ensures.cause in
    cut_short program binds earlier start tasks first _ i (drop i tasks) (drop (i + 1) tasks) _ c.loop-task.session.stores c.step.new.self.stores c.loop-task.stand.layouts _ _ split came
    (stepped program c.loop-task.session.compiled binds came.state _ c.loop-task.session.stores c.step.new.self.stores (Err stop.Memory) _ _ here came.stand
    (has_head program compiled binds (drop i tasks) (drop (i + 1) tasks) _ compiles split c.loop-task.invariant.bound)
    told performed c.in-Err-Memory.ensures.asked c.in-Err-Memory.ensures.reads cause c.in-Err-Memory.ensures.holds) (stays_same (output_of g.S.Sink c.loop-task.out))

pub returns-clause-went : goal.returns-clause-went
returns-clause-went g c = λ program compiles earlier start stand first begins.
    let came = c.loop-task.invariant.came program compiles earlier start stand first begins in
    let here = subst (Compiles program) (sym c.loop-task.invariant.compiled) compiles in
    all_so program c.args.asked.now.binds.list earlier start c.args.tasks.now first _ c.loop-task.task-index (drop c.loop-task.task-index c.args.tasks.now) c.loop-task.session c.loop-task.stand.layouts
    (outside_of g.F.Files g.S.Sink c.loop-task.files c.loop-task.out) _ c.send_end.result
    (drop_all c.loop-task.task-index c.args.tasks.now (omega arith)) here came c.send_end.ensures.sends c.send_end.ensures.status refl refl refl
