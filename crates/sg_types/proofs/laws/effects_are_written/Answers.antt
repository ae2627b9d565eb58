use Rattle.sg_types.proofs.Texts.{effects_are_written}
use Rattle.sg_types.proofs.laws.effects_are_written.Goals as goal

pub returns : goal.returns
returns c = effects_are_written
