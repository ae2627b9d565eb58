use Rattle.sg_audit.proofs.Verdicts.{yes_is_sound}
use Rattle.sg_audit.proofs.laws.yes_is_sound.Goals as goal

pub returns : goal.returns
returns c = yes_is_sound
