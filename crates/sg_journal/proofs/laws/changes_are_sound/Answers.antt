use Rattle.sg_journal.proofs.PlacingChanges.{changes_are_sound, held_counts}
use Rattle.sg_journal.proofs.laws.changes_are_sound.Goals as goal

pub returns-clause-sound : goal.returns-clause-sound
returns-clause-sound c = changes_are_sound

pub returns-clause-counts : goal.returns-clause-counts
returns-clause-counts c = held_counts
