use Rattle.sg_journal.proofs.Step.{changes_go}
use Rattle.sg_journal.proofs.laws.line_changes_are_sound.Goals as goal

pub returns : goal.returns
returns c = changes_go
