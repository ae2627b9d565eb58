use Rattle.sg_audit.proofs.Fronts.{fronts_are_sound}
use Rattle.sg_audit.proofs.laws.fronts_are_sound.Goals as goal

pub returns : goal.returns
returns c = fronts_are_sound c.sound_holds_once.ensures
