use Rattle.std.proofs.Common.{map}
use Rattle.sg_session.specs.Bindings.{binding_read}
use Rattle.sparsegrid.specs.Telling.{telling_of, shows_journal}
use Rattle.sparsegrid.specs.Meaning.{meaning_from}
use Rattle.sparsegrid.proofs.Bound.{all_bound}
use Rattle.sparsegrid.proofs.Kept.{kept_session}
use Rattle.sparsegrid.proofs.perform.perform_tasks.Goals as goal

pub drive_shown-requires-clause-bound : goal.drive_shown-requires-clause-bound
drive_shown-requires-clause-bound g c = λ lifetimes outlive. all_bound c.args.begun.compiled.names (map binding_read c.args.asked.now.binds.list) c.args.tasks.now c.requires.bound

pub returns-in-Ok-clause-went : goal.returns-in-Ok-clause-went
returns-in-Ok-clause-went g c = λ program compiles earlier state stand.
    kept_session (shows_journal c.args.what) (λ readings. meaning_from program (map binding_read c.args.asked.now.binds.list) (telling_of program.names program.layouts c.args.what) readings earlier state c.args.tasks.now) earlier _ _ _ c.in-Ok.status c.done_with.result
    c.done_with.ensures.status c.done_with.ensures.same (c.in-Ok.ensures.went program compiles earlier state stand)
