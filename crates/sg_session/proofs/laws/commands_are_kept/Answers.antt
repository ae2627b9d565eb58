use Rattle.sg_session.proofs.Numbered.{commands_are_kept}
use Rattle.sg_session.proofs.laws.commands_are_kept.Goals as goal

pub returns : goal.returns
returns c = commands_are_kept
