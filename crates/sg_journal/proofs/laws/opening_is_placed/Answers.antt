use Rattle.sg_journal.proofs.Opening.{opening_placed}
use Rattle.sg_journal.proofs.laws.opening_is_placed.Goals as goal

pub returns : goal.returns
returns c = opening_placed c.links_are_sound.ensures c.live_is_need.ensures c.need_absorbs.ensures.absorbs
