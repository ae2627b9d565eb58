use Rattle.std.proofs.Common.{◌≡◌, ◌≤◌, ℕ, List, map, drop}
use Rattle.std.specs.List.{AllByRecursion}
use Rattle.sg_flat.specs.declared.state.FlatState.{FlatState}
use Rattle.sg_exec.specs.Standing.{StandForState}
use Rattle.sg_journal.specs.declared.lines.Line.{Line}
use Rattle.sg_session.specs.Compiled.{CheckedProgram, Compiles, IsTask}
use Rattle.sg_session.specs.Performed.{HasFile}
use Rattle.sg_session.specs.Bindings.{binding_read}
use Rattle.sparsegrid.specs.Outcome.{outside_of}
use Rattle.sparsegrid.specs.steps.Leading.{Begins, CameWithParts}
use Rattle.sparsegrid.proofs.journaling.drive_on.Given as goal

abbrev pub invariant-loop-task : goal.invariant-loop-task
invariant-loop-task g l = record {
  came : (program : CheckedProgram) → Compiles program l.fn.session.compiled → (earlier : ℕ) (start : FlatState) → StandForState l.fn.session.compiled.layouts l.fn.session.stores start
      → (first : List Line) → Begins program start first l.fn.placed.layouts
      → CameWithParts program (map binding_read l.asked.binds.list) earlier start l.tasks first l.task-index (drop l.task-index l.tasks) l.session.stores l.stand.layouts
      (outside_of g.F.Files g.S.Sink l.fn.files l.fn.out) (outside_of g.F.Files g.S.Sink l.files l.out);
  compiled : l.session.compiled ≡ l.fn.session.compiled;
  there : AllByRecursion (IsTask l.fn.session.compiled) (drop l.task-index l.tasks);
  bound : AllByRecursion (HasFile l.fn.session.compiled.names (map binding_read l.asked.binds.list)) (drop l.task-index l.tasks);
  holds : g.F.Files.holds l.files ≡ g.F.Files.holds l.fn.files;
  never_falls : g.F.Files.faults l.fn.files ≤ g.F.Files.faults l.files;
  faults : g.S.Sink.faults l.out ≡ g.S.Sink.faults l.fn.out;
}
