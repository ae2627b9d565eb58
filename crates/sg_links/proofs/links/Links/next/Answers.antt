use Rattle.std.proofs.Common.{arith}
use Rattle.sg_links.proofs.Kept.{kept_from}
use Rattle.sg_links.proofs.Changes.{goes_on, ends_there}
use Rattle.sg_links.proofs.links.Links.next.Goals as goal

pub returns-then-following-len : goal.returns-then-following-len
returns-then-following-len c =
    let kept = kept_from c.args.self.now _ _ c.self.invariant.linked c.self.view_is in
    ends_there c.args.self.now _ _ c.args.number _ kept (c.get-following.ensures 0) (omega arith)

pub returns-else-following-len : goal.returns-else-following-len
returns-else-following-len c =
    let kept = kept_from c.args.self.now _ _ c.self.invariant.linked c.self.view_is in
    goes_on c.args.self.now _ _ c.args.number _ kept (c.get-following.ensures 0) (omega arith)
