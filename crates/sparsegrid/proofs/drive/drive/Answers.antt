use Rattle.std.proofs.Common.{drop, ◌∙◌, refl, subst, sym, arith, map, List}
use Rattle.std.specs.List.{AllByRecursion}
use Rattle.std.proofs.lemmas.List.{drop_all}
use Rattle.sg_layout.specs.declared.shape.Shape.{Shape}
use Rattle.sg_exec.specs.Standing.{StandForState}
use Rattle.sg_names.specs.Tables.{Tables}
use Rattle.sg_session.specs.Compiled.{CompiledProgram, Compiles, IsTask}
use Rattle.sg_session.specs.Bindings.{binding_read}
use Rattle.sg_session.specs.Performed.{HasFile}
use Rattle.sparsegrid.specs.Telling.{telling_of}
use Rattle.sparsegrid.specs.Outcome.{output_of, outside_of}
use Rattle.sparsegrid.specs.steps.Along.{Sends}
use Rattle.sparsegrid.proofs.Reaching.{one_text}
use Rattle.sparsegrid.proofs.Tasks.{came_start, went_all}
use Rattle.sparsegrid.proofs.drive.drive.Goals as goal

pub loop-at-init : goal.loop-at-init
loop-at-init g c = record {
  within = omega arith;
  came = λ program compiles earlier start stand. came_start program c.args.asked.now.binds.list (telling_of program.names program.layouts c.args.what) earlier start c.args.tasks.now c.args.session.now.stores _ (subst (λ (ls : List Shape). StandForState ls c.args.session.now.stores start) compiles.layouts stand);
  compiled = refl;
  holds = refl;
  never_falls = omega arith;
  faults = refl;
}

pub loop-at-preserved : goal.loop-at-preserved
loop-at-preserved g c =
    let held = c.loop-at.invariant in
    let advanced = rw c.in-Further.is at c.in-Ok.ensures.advanced in
    let status = rw c.in-Further.is at c.in-Ok.ensures.status in
    record {
      within = status.1;
      came = λ program compiles earlier start stand. advanced program (subst (Compiles program) (sym held.compiled) compiles) earlier start _ (held.came program compiles earlier start stand);
      compiled = c.perform_next.ensures.compiled ∙ held.compiled;
      holds = c.perform_next.ensures.holds ∙ held.holds;
      never_falls = omega (arith, c.perform_next.ensures.never_falls, held.never_falls);
      faults = c.in-Ok.ensures.cause ∙ held.faults;
    }

pub loop-at-smaller : goal.loop-at-smaller
loop-at-smaller g c = let status = rw c.in-Further.is at c.in-Ok.ensures.status in omega (arith, status.0, status.1)

pub perform_next-requires-clause-there : goal.perform_next-requires-clause-there
perform_next-requires-clause-there g c κs within = subst (λ (compiled : CompiledProgram). AllByRecursion (IsTask compiled) c.args.tasks.now) (sym c.loop-at.invariant.compiled) c.requires.there

pub perform_next-requires-clause-bound : goal.perform_next-requires-clause-bound
perform_next-requires-clause-bound g c κs within =
    subst (λ (compiled : CompiledProgram). AllByRecursion (HasFile compiled.names (map binding_read c.args.asked.now.binds.list)) c.args.tasks.now) (sym c.loop-at.invariant.compiled) c.requires.bound

pub returns-in-Ended-clause-status : goal.returns-in-Ended-clause-status
returns-in-Ended-clause-status g c = rw c.in-Ended.is at c.in-Ok.ensures.status

pub returns-in-Ended-clause-went : goal.returns-in-Ended-clause-went
returns-in-Ended-clause-went g c = λ program compiles earlier start stand.
    let held = c.loop-at.invariant in
    let advanced = rw c.in-Ended.is at c.in-Ok.ensures.advanced in
    advanced program (subst (Compiles program) (sym held.compiled) compiles) earlier start _ (held.came program compiles earlier start stand)

pub returns-in-Err-clause-went : goal.returns-in-Err-clause-went
returns-in-Err-clause-went g c = λ program compiles earlier start stand.
    let held = c.loop-at.invariant in
    c.in-Err.ensures.advanced program (subst (Compiles program) (sym held.compiled) compiles) earlier start _ (held.came program compiles earlier start stand)

pub returns-clause-went : goal.returns-clause-went
returns-clause-went g c = λ program compiles earlier start stand.
    let came = c.loop-at.invariant.came program compiles earlier start stand in
    let here = subst (Compiles program) (sym c.loop-at.invariant.compiled) compiles in
    (went_all program c.args.asked.now.binds.list (telling_of program.names program.layouts c.args.what) earlier start c.args.tasks.now c.loop-at.at (drop c.loop-at.at c.args.tasks.now) _
    (outside_of g.F.Files g.S.Sink c.loop-at.files c.loop-at.out) _ c.loop-at.session c.end.result ((telling_of program.names program.layouts c.args.what).ending came.state)
    (drop_all c.loop-at.at c.args.tasks.now (omega arith)) here came (one_text program.names program.layouts c.args.what came.state c.requires.shown)
    (subst (λ (shapes : List Shape). Sends c.end.result (output_of g.S.Sink c.loop-at.out) (output_of g.S.Sink c.end.new.out) ((telling_of program.names shapes c.args.what).ending came.state)) here.layouts
    (subst (λ (names : Tables). Sends c.end.result (output_of g.S.Sink c.loop-at.out) (output_of g.S.Sink c.end.new.out) ((telling_of names c.loop-at.session.compiled.layouts c.args.what).ending came.state)) here.names
    (c.end.ensures.sends came.state (subst (λ (shapes : List Shape). StandForState shapes c.loop-at.session.stores came.state) (sym here.layouts) came.stand))))
    c.end.ensures.status refl refl refl).went
