use Rattle.sg_journal.proofs.Needed.{placed_are_needed}
use Rattle.sg_journal.proofs.laws.placed_are_needed.Goals as goal

pub returns : goal.returns
returns c = placed_are_needed c.links_are_sound.ensures c.live_is_need.ensures
