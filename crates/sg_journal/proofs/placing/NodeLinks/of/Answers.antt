use Rattle.std.proofs.Common.{◌≡◌, ◌+◌, ◌-◌, ℕ, List, sym, subst, arith}
use Rattle.sg_store.specs.declared.links.LinkAt.{LinkAt}
use Rattle.sg_store.specs.Links.{AreLinks}
use Rattle.sg_journal.proofs.placing.NodeLinks.of.Goals as goal

pub returns-in_ok-links_of-in-Pointer : goal.returns-in_ok-links_of-in-Pointer
returns-in_ok-links_of-in-Pointer c =
    let back : c.args.index + 1 - 1 ≡ c.args.index = omega arith in
    subst (λ (l : List LinkAt). AreLinks c.args.store.now c.args.index l) (sym c.from_vec.ensures)
    (subst (λ (i : ℕ). AreLinks c.args.store.now i c.in_ok-links_of-in-Pointer.field-0.items) back c.in_ok-links_of-in-Pointer.ensures)
