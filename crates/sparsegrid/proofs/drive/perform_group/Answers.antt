use Rattle.std.proofs.Common.{◌≡◌, ◌<◌, ℕ, length, drop, get_or, map, List, Some, None, Err, refl, sym, ap, ◌∙◌, subst, arith}
use Rattle.std.specs.Prelude.{Result, slice_index}
use Rattle.std.proofs.lemmas.List.Elements.{Contains-get_or}
use Rattle.std.proofs.lemmas.Option.{slice_get-get_or}
use Rattle.sg_words.specs.declared.memory.Stop.{Stop}
use Rattle.sg_layout.specs.declared.shape.Shape.{Shape}
use Rattle.sg_exec.specs.Standing.{StandForState}
use Rattle.sg_batch.specs.declared.fault.BatchFault.{BatchFault}
use Rattle.sg_session.specs.Compiled.{CompiledProgram, Compiles}
use Rattle.sg_session.specs.declared.refusal.RunRefusal.TheVariants as refusal
use Rattle.sg_session.specs.declared.tasks.Task.TheVariants.{Run}
use Rattle.sg_session.specs.Bindings.{binding_read}
use Rattle.sg_session.specs.Performed.{SessionParts}
use Rattle.sparsegrid.specs.Telling.{telling_of}
use Rattle.sparsegrid.specs.Outcome.{outside_of}
use Rattle.sparsegrid.specs.steps.Along.{Came}
use Rattle.sparsegrid.proofs.Tasks.{line_of, line_status_of}
use Rattle.sparsegrid.proofs.Advancing.{advanced_end, advanced_memory, ended_cause, ended_status}
use Rattle.sparsegrid.proofs.GroupFront.{group_apart, group_enough, group_few, group_runs}
use Rattle.sparsegrid.proofs.GroupsDone.{quiet_of, group_there, group_within, group_further, group_ended}
use Rattle.sparsegrid.proofs.drive.perform_group.Goals.{in-Ok, in-Err-Refused, in-Err-Memory}
use Rattle.sparsegrid.proofs.drive.perform_group.Goals as goal

refused_is : {one other : Stop BatchFault} → one ≡ other → ◌≡◌ {A = Result Unit (Stop BatchFault)} (Err one) (Err other)
refused_is is = ap (λ (why : Stop BatchFault). let answer : Result Unit (Stop BatchFault) = Err why in answer) is

pub run_group-requires-clause-there : goal.run_group-requires-clause-there
run_group-requires-clause-there g c = λ lifetimes outlive k d below.
    group_there c.args.session.now.compiled c.args.tasks.now c.args.at c.args.group.now c.requires.there (group_runs c.args.session.now.compiled (drop c.args.at c.args.tasks.now) c.args.asked.now.workers c.args.group.now c.requires.group) (get_or c.args.group.now k d) (Contains-get_or c.args.group.now k d below)

pub run_group-requires-clause-apart : goal.run_group-requires-clause-apart
run_group-requires-clause-apart g c = λ lifetimes outlive. group_apart c.args.session.now.compiled (drop c.args.at c.args.tasks.now) c.args.asked.now.workers c.args.group.now c.requires.group

pub run_group-requires-clause-few_members : goal.run_group-requires-clause-few_members
run_group-requires-clause-few_members g c = λ lifetimes outlive. group_few c.args.session.now.compiled (drop c.args.at c.args.tasks.now) c.args.asked.now.workers c.args.group.now c.requires.group

pub run_group-requires-clause-enough : goal.run_group-requires-clause-enough
run_group-requires-clause-enough g c = λ lifetimes outlive. group_enough c.args.session.now.compiled (drop c.args.at c.args.tasks.now) c.args.asked.now.workers c.args.group.now c.requires.group

pub refuse_task-requires : goal.refuse_task-requires
refuse_task-requires g c =
    let there = group_there c.args.session.now.compiled c.args.tasks.now c.args.at c.args.group.now c.requires.there (group_runs c.args.session.now.compiled (drop c.args.at c.args.tasks.now) c.args.asked.now.workers c.args.group.now c.requires.group) in
    let low = c.in-Err-Refused.ensures.place c.in-Err-Refused.why (refused_is c.in-Err-Refused.field-0-is) in
    subst (λ (p : CompiledProgram). slice_index c.args.group.now c.in-Err-Refused.why.at < length p.kernels) (sym (ap (λ (s : SessionParts). s.compiled) c.session.view_is ∙ c.run_group.ensures.compiled))
    (there (slice_index c.args.group.now c.in-Err-Refused.why.at) (Contains-get_or c.args.group.now c.in-Err-Refused.why.at 0 low))

pub after_group-requires : goal.after_group-requires
after_group-requires g c =
    let low = group_within c.args.tasks.now c.args.at c.args.group.now (omega (arith, c.requires.within)) (group_runs c.args.session.now.compiled (drop c.args.at c.args.tasks.now) c.args.asked.now.workers c.args.group.now c.requires.group) in
    omega (arith, low)

pub returns-clause-status : goal.returns-clause-status
returns-clause-status g c = elim c.match-run_group.branch [
  | in-Ok w ↦ rw w.result-is (
      let low = group_within c.args.tasks.now c.args.at c.args.group.now (omega (arith, c.requires.within)) (group_runs c.args.session.now.compiled (drop c.args.at c.args.tasks.now) c.args.asked.now.workers c.args.group.now c.requires.group) in
      (omega (arith, w.after_group.ensures, c.requires.member), omega (arith, w.after_group.ensures, low))
      )
  | in-Err-Refused w ↦ rw w.result-is
      (ended_status c.args.at (length c.args.tasks.now) c.session.inside.compiled.names None (Run (slice_index c.args.group.now w.in-Err-Refused.why.at)) (refusal.Run (Some (slice_index c.args.group.now w.in-Err-Refused.why.at)) w.in-Err-Refused.why.fault) w.refuse_task.result w.ended.result w.ended.ensures w.refuse_task.ensures.status)
  | in-Err-Memory w ↦ rw w.result-is tt
]

pub returns-clause-advanced : goal.returns-clause-advanced
returns-clause-advanced g c = λ program compiles earlier start before came.
    let compiled = c.args.session.now.compiled in
    let binds = c.args.asked.now.binds.list in
    let runs = (group_runs c.args.session.now.compiled (drop c.args.at c.args.tasks.now) c.args.asked.now.workers c.args.group.now c.requires.group) in
    let there = group_there c.args.session.now.compiled c.args.tasks.now c.args.at c.args.group.now c.requires.there (group_runs c.args.session.now.compiled (drop c.args.at c.args.tasks.now) c.args.asked.now.workers c.args.group.now c.requires.group) in
    let stand = subst (λ (ls : List Shape). StandForState ls c.args.session.now.stores came.state) (sym compiles.layouts) came.stand in
    elim c.match-run_group.branch [
      | in-Ok w ↦ rw w.result-is (rw w.out-is
          (subst (λ (n : ℕ). Came program (map binding_read c.args.asked.now.binds.list) (telling_of program.names program.layouts c.args.what) earlier start c.args.tasks.now n (drop n c.args.tasks.now) c.run_group.new.session.stores before
          (outside_of g.F.Files g.S.Sink c.args.files.now c.args.out.now))
          (sym w.after_group.ensures)
          (group_further program compiled compiles binds (telling_of program.names program.layouts c.args.what) (quiet_of program.names program.layouts c.args.what) earlier start c.args.tasks.now c.args.at c.args.group.now
          c.args.session.now.stores c.run_group.new.session.stores before _ came runs there
          (w.in-Ok.ensures.flat came.state stand) (w.in-Ok.ensures.answer came.state stand))))
      | in-Err-Refused w ↦ rw w.result-is (rw w.out-is (
          let answer = rw w.in-Err-Refused.field-0-is at (w.in-Err-Refused.ensures.answer came.state stand) in
          let flat = rw w.in-Err-Refused.field-0-is at (w.in-Err-Refused.ensures.flat came.state stand) in
          let inside = ap (λ (s : SessionParts). s.compiled.names) c.session.view_is ∙ (ap (λ (p : CompiledProgram). p.names) c.run_group.ensures.compiled ∙ compiles.names) in
          advanced_end program (map binding_read binds) (telling_of program.names program.layouts c.args.what) earlier start c.args.tasks.now c.run_group.new.session before _ w.refuse_task.result w.ended.result w.ended.ensures
          (group_ended program compiled compiles binds (telling_of program.names program.layouts c.args.what) (quiet_of program.names program.layouts c.args.what) earlier start c.args.tasks.now c.args.at c.args.group.now
          c.args.session.now.stores c.run_group.new.session.stores before _ came runs there flat
          w.in-Err-Refused.why (slice_index c.args.group.now w.in-Err-Refused.why.at) c.run_group.new.session w.refuse_task.result _ answer
          (slice_get-get_or c.args.group.now w.in-Err-Refused.why.at 0 (w.in-Err-Refused.ensures.place w.in-Err-Refused.why (refused_is w.in-Err-Refused.field-0-is)))
          refl (subst (Compiles program) (sym c.run_group.ensures.compiled) compiles)
          (line_of program.names c.session.inside.compiled.names binds (Run (slice_index c.args.group.now w.in-Err-Refused.why.at)) (refusal.Run (Some (slice_index c.args.group.now w.in-Err-Refused.why.at)) w.in-Err-Refused.why.fault) w.refuse_task.result _ _ inside w.refuse_task.ensures.sends)
          (line_status_of program.names c.session.inside.compiled.names binds (Run (slice_index c.args.group.now w.in-Err-Refused.why.at)) (refusal.Run (Some (slice_index c.args.group.now w.in-Err-Refused.why.at)) w.in-Err-Refused.why.fault) w.refuse_task.result inside w.refuse_task.ensures.status) refl refl refl)))
      | in-Err-Memory w ↦ rw w.result-is (rw w.out-is
          (advanced_memory program c.args.asked.now.binds.list (telling_of program.names program.layouts c.args.what) earlier start c.args.tasks.now c.args.at c.args.session.now.stores before _ came))
    ]
