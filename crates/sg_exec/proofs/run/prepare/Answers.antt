use Rattle.std.proofs.Common.{List, subst}
use Rattle.sg_layout.specs.declared.shape.Shape.{Shape}
use Rattle.sg_exec.specs.Running.{run_meaning}
use Rattle.sg_exec.specs.steps.Made.{MadeRan}
use Rattle.sg_exec.proofs.Answering.{runnable_here}
use Rattle.sg_exec.proofs.PreparedRuns.{LocalLaws, prepared_here}
use Rattle.sg_exec.proofs.run.prepare.Goals as goal

pub returns-clause-prepared : goal.returns-clause-prepared
returns-clause-prepared g c = λ state stand.
    let shapes = c.args.layouts.now.list in
    let stores = c.args.stores.now.list in
    let kernel = c.args.kernel.now in
    let laws : LocalLaws = record { stays = c.unwritten_stays.ensures; reads = c.reads_decide.ensures; one = c.stands_for_one.ensures; room = c.stands_has_room.ensures } in
    prepared_here laws shapes kernel stores state c.kernel_made.result stand c.well_formed-2.ensures c.kernel_made.ensures.goes
    (subst (λ (ss : List Shape). MadeRan c.args.stores.now.list c.kernel_made.result (run_meaning ss state c.args.kernel.now)) stand.shapes_are
    (c.kernel_made.ensures.ran (runnable_here shapes stores kernel stand.shapes_are c.requires.runnable) state stand.stand))

pub returns-clause-lands : goal.returns-clause-lands
returns-clause-lands g c = c.kernel_made.ensures.goes
