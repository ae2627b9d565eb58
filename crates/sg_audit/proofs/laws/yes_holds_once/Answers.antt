use Rattle.sg_audit.proofs.Verdicts.{yes_holds_once}
use Rattle.sg_audit.proofs.laws.yes_holds_once.Goals as goal

pub returns : goal.returns
returns c = yes_holds_once c.sound_holds_once.ensures
