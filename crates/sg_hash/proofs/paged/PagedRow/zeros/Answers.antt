use Rattle.sg_hash.proofs.Paging.{zeros_are}
use Rattle.sg_hash.proofs.paged.PagedRow.zeros.Goals as goal

pub returns : goal.returns
returns c = zeros_are c.in_ok-words.words.items _ _ c.args.places c.in_ok-words.ensures.items c.grow.ensures.items c.in_ok-pages.ensures.items
