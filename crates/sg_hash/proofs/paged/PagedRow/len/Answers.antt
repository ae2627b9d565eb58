use Rattle.sg_hash.proofs.Paging.{places_are}
use Rattle.sg_hash.proofs.paged.PagedRow.len.Goals as goal

pub returns : goal.returns
returns c = places_are c.self.inside.words.items c.self.inside.pages.items c.args.self.now c.self.inside.places c.self.view_is
