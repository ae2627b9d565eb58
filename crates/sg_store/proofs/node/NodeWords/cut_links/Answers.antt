use Rattle.std.proofs.Common.{◌<◌, ◌^◌, arith}
use Rattle.sg_pool.specs.Numbers.{place_count}
use Rattle.sg_store.proofs.NodesTrimmed.{links_small}
use Rattle.sg_store.proofs.node.NodeWords.cut_links.Goals as goal

pub give_back_cut-requires-clause-small : goal.give_back_cut-requires-clause-small
give_back_cut-requires-clause-small c =
    let few : place_count c.args.self.now.pool < 2 ^ 32 = grind (arith, c.places.ensures.places) in
    links_small c.args.self.now.pool c.args.self.now.links c.requires.linked few
