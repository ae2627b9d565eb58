use Rattle.std.proofs.Common.{◌∙◌, sym, map}
use Rattle.sg_session.specs.Bindings.{binding_read}
use Rattle.sparsegrid.proofs.Reaching.{kept_plain, kept_changes}
use Rattle.sparsegrid.proofs.perform.drive_shown.Goals as goal

pub returns-then-shows_journal-clause-went : goal.returns-then-shows_journal-clause-went
returns-then-shows_journal-clause-went g c = λ program compiles earlier state stand.
    kept_changes program (map binding_read c.args.asked.now.binds.list) c.args.what earlier state c.args.tasks.now _ _ _ (sym c.shows_journal.ensures ∙ c.if-shows_journal.true) (c.drive_journal.ensures.went program compiles earlier state stand)

pub returns-else-shows_journal-clause-went : goal.returns-else-shows_journal-clause-went
returns-else-shows_journal-clause-went g c = λ program compiles earlier state stand.
    kept_plain program (map binding_read c.args.asked.now.binds.list) c.args.what earlier state c.args.tasks.now _ _ _ (sym c.shows_journal.ensures ∙ c.if-shows_journal.false) (c.drive.ensures.went program compiles earlier state stand)
