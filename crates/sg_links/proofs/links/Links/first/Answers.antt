use Rattle.std.proofs.Common.{sym, arith}
use Rattle.sg_links.specs.steps.Rows.{no_head}
use Rattle.sg_links.proofs.Kept.{kept_from}
use Rattle.sg_links.proofs.Changes.{first_is}
use Rattle.sg_links.proofs.links.Links.first.Goals as goal

pub returns-else-list-eq0 : goal.returns-else-list-eq0
returns-else-list-eq0 c =
    let kept = kept_from c.args.self.now _ _ c.self.invariant.linked c.self.view_is in
    sym (first_is c.args.self.now _ _ c.args.head _ kept c.requires (c.get-list.ensures no_head) (omega arith))
