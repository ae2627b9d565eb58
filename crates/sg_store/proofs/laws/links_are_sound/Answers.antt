use Rattle.sg_store.proofs.LinksSound.{links_are_sound}
use Rattle.sg_store.proofs.laws.links_are_sound.Goals as goal

pub returns : goal.returns
returns c = links_are_sound
