use Rattle.std.proofs.Common.{ℕ, ◌+◌, ◌<◌, Some, length, get_or, sym, ap, ◌∙◌, arith}
use Rattle.std.specs.Prelude.{slice_get}
use Rattle.std.proofs.lemmas.Option.{slice_get-get_or}
use Rattle.sg_links.specs.Lists.{Lists, list_of}
use Rattle.sg_links.specs.steps.Rows.{no_head, list_at}
use Rattle.sg_links.proofs.Changes.{long_is}
use Rattle.sg_links.proofs.Orders.{seen_of, kept_so, found_laid}
use Rattle.sg_links.proofs.links.Links.nth.Goals as goal

pub get-requires : goal.get-requires
get-requires c =
    let linked = c.self.invariant.linked in
    let there : c.args.head < length c.self.inside.heads = omega (arith, c.requires, ap (λ (l : Lists). length l.lists) c.self.view_is, linked.as_many) in
    let long = long_is (seen_of c.self.inside.next c.self.inside.heads) _ _ c.args.head _ (kept_so _ _ linked) (omega (arith, there, linked.as_many)) (c.get-list.ensures no_head) in
    let inside = (c.self.invariant.laid c.if-self.true).within c.args.head there c.args.place (omega (arith, long, c.if-place-list.false)) in
    omega (arith, inside, c.get-start.ensures 0, c.self.invariant.order_many)

pub returns-then-self : goal.returns-then-self
returns-then-self c =
    let linked = c.self.invariant.linked in
    let there : c.args.head < length c.self.inside.heads = omega (arith, c.requires, ap (λ (l : Lists). length l.lists) c.self.view_is, linked.as_many) in
    let long = long_is (seen_of c.self.inside.next c.self.inside.heads) _ _ c.args.head _ (kept_so _ _ linked) (omega (arith, there, linked.as_many)) (c.get-list.ensures no_head) in
    ap Some (c.get.ensures 0 ∙ ap (λ (s : ℕ). get_or c.self.inside.order (s + c.args.place) 0) (c.get-start.ensures 0))
    ∙ found_laid (list_at c.self.inside.next c.self.inside.heads c.args.head) c.self.inside.order _ c.args.place ((c.self.invariant.laid c.if-self.true).laid c.args.head there) (omega (arith, long, c.if-place-list.false))
    ∙ ap (λ (l : Lists). slice_get (list_of l c.args.head) c.args.place) c.self.view_is

pub returns : goal.returns
returns c =
    let linked = c.self.invariant.linked in
    let there : c.args.head < length c.self.inside.heads = omega (arith, c.requires, ap (λ (l : Lists). length l.lists) c.self.view_is, linked.as_many) in
    let long = long_is (seen_of c.self.inside.next c.self.inside.heads) _ _ c.args.head _ (kept_so _ _ linked) (omega (arith, there, linked.as_many)) (c.get-list.ensures no_head) in
    ap Some c.walk_to.ensures
    ∙ sym (slice_get-get_or (list_at c.self.inside.next c.self.inside.heads c.args.head) c.args.place 0 (omega (arith, long, c.if-place-list.false)))
    ∙ ap (λ (l : Lists). slice_get (list_of l c.args.head) c.args.place) c.self.view_is
