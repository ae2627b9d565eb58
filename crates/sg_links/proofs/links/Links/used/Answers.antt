use Rattle.std.proofs.Common.{sym, ap, ◌∙◌}
use Rattle.sg_links.specs.Lists.{Lists, list_of}
use Rattle.sg_links.proofs.Orders.{unused_empty}
use Rattle.sg_links.proofs.links.Links.used.Goals as goal

pub returns-clause-rest : goal.returns-clause-rest
returns-clause-rest c = λ head past.
    ap (λ (l : Lists). list_of l head) (sym c.self.view_is) ∙ unused_empty c.self.inside.next c.self.inside.heads head (c.heads_used.ensures.rest head past)
