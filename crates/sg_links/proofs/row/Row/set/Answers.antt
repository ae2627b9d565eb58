use Rattle.std.proofs.Common.{◌<◌, length, refl, sym, ap, ◌∙◌, subst}
use Rattle.std.specs.Vec.{with_item}
use Rattle.sg_links.proofs.Padded.{padded_long, given}
use Rattle.sg_links.proofs.row.Row.set.Goals as goal

pub returns : goal.returns
returns g c =
    let items = c.self.inside.items.items in
    let places = c.self.inside.places in
    let rest = c.self.inside.rest in
    let few = c.self.invariant.0 in
    let all = sym (padded_long items rest places few) ∙ ap length c.self.view_is in
    given items c.args.self.now c.grow.new.items.items (with_item c.grow.new.items c.args.place c.args.item).items rest c.args.item places c.args.place c.self.view_is few
    (subst (λ n. c.args.place < n) (sym all) c.requires) c.grow.ensures.items refl
