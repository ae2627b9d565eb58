use Rattle.std.proofs.Common.{◌≡◌, ◌≤◌, ◌-◌, ℕ, length, map, drop}
use Rattle.sg_flat.specs.declared.state.FlatState.{FlatState}
use Rattle.sg_exec.specs.Standing.{StandForState}
use Rattle.sg_session.specs.Compiled.{CheckedProgram, Compiles}
use Rattle.sg_session.specs.Bindings.{binding_read}
use Rattle.sparsegrid.specs.Telling.{telling_of}
use Rattle.sparsegrid.specs.Outcome.{outside_of}
use Rattle.sparsegrid.specs.steps.Along.{Came}
use Rattle.sparsegrid.proofs.drive.drive.Given as goal

abbrev pub invariant-loop-at : goal.invariant-loop-at
invariant-loop-at g l = record {
  within : l.at ≤ length l.tasks;
  came : (program : CheckedProgram) → Compiles program l.fn.session.compiled → (earlier : ℕ) (start : FlatState) → StandForState l.fn.session.compiled.layouts l.fn.session.stores start
      → Came program (map binding_read l.asked.binds.list) (telling_of program.names program.layouts l.what) earlier start l.tasks l.at (drop l.at l.tasks) l.session.stores
      (outside_of g.F.Files g.S.Sink l.fn.files l.fn.out) (outside_of g.F.Files g.S.Sink l.files l.out);
  compiled : l.session.compiled ≡ l.fn.session.compiled;
  holds : g.F.Files.holds l.files ≡ g.F.Files.holds l.fn.files;
  never_falls : g.F.Files.faults l.fn.files ≤ g.F.Files.faults l.files;
  faults : g.S.Sink.faults l.out ≡ g.S.Sink.faults l.fn.out;
}

abbrev pub decreases-loop-at : goal.decreases-loop-at
decreases-loop-at g l = length l.tasks - l.at
