use Rattle.sg_journal.proofs.PlacedOnce.{nothing_is_sound, nothing_is_held}
use Rattle.sg_journal.proofs.laws.nothing_is_placed.Goals as goal

pub returns-clause-sound : goal.returns-clause-sound
returns-clause-sound c = nothing_is_sound

pub returns-clause-held : goal.returns-clause-held
returns-clause-held c = nothing_is_held
