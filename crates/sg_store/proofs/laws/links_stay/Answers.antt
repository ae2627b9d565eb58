use Rattle.sg_store.proofs.LinksKept.{cells_keep_links, grown_are_kept, shrunk_are_kept}
use Rattle.sg_store.proofs.laws.links_stay.Goals as goal

pub returns-clause-grow : goal.returns-clause-grow
returns-clause-grow c = cells_keep_links

pub returns-clause-grown : goal.returns-clause-grown
returns-clause-grown c = grown_are_kept

pub returns-clause-shrunk : goal.returns-clause-shrunk
returns-clause-shrunk c = shrunk_are_kept
