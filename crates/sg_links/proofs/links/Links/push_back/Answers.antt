use Rattle.std.proofs.Common.{arith, ap, refl, length, ◌∙◌, set}
use Rattle.std.proofs.lemmas.List.{length-set}
use Rattle.sg_links.specs.steps.Rows.{no_head}
use Rattle.sg_links.proofs.Kept.{kept_from, in_order, kept_seen}
use Rattle.sg_links.proofs.Changes.{pushed_back_first, pushed_back, longer_by_one, last_below}
use Rattle.sg_links.proofs.links.Links.push_back.Goals as goal

pub invariant_of-self : goal.invariant_of-self
invariant_of-self c =
    let kept = kept_from c.args.self.now _ _ c.self.invariant.linked c.self.view_is in
    in_order _ _ _ _ _ _ _ _ _ c.self.invariant kept (pushed_back_first c.args.self.now _ _ _ _ c.args.head c.args.number _ _ kept c.requires.there c.requires.below c.requires.free (c.get-old.ensures no_head) c.if-old-eq0.true c.single.ensures (c.set.ensures ∙ ap (set c.self.inside.next c.args.number) c.len.ensures) c.set-then-old-eq0.ensures) (length-set _ _ _) refl

pub returns-then-old-eq0 : goal.returns-then-old-eq0
returns-then-old-eq0 c =
    let kept = kept_from c.args.self.now _ _ c.self.invariant.linked c.self.view_is in
    kept_seen _ _ _ (pushed_back_first c.args.self.now _ _ _ _ c.args.head c.args.number _ _ kept c.requires.there c.requires.below c.requires.free (c.get-old.ensures no_head) c.if-old-eq0.true c.single.ensures (c.set.ensures ∙ ap (set c.self.inside.next c.args.number) c.len.ensures) c.set-then-old-eq0.ensures)

pub invariant_of-self-else-old-eq0 : goal.invariant_of-self-else-old-eq0
invariant_of-self-else-old-eq0 c =
    let kept = kept_from c.args.self.now _ _ c.self.invariant.linked c.self.view_is in
    in_order _ _ _ _ _ _ _ _ _ c.self.invariant kept (pushed_back c.args.self.now _ _ _ _ _ c.args.head c.args.number _ _ kept c.requires.there c.requires.below c.requires.free (c.get-old.ensures no_head) c.if-old-eq0.false refl (c.set.ensures ∙ ap (set c.self.inside.next c.args.number) c.len.ensures) c.set-else-old-eq0.ensures c.set-else-old-eq0-2.ensures) (length-set _ _ _) refl

pub returns-else-old-eq0 : goal.returns-else-old-eq0
returns-else-old-eq0 c =
    let kept = kept_from c.args.self.now _ _ c.self.invariant.linked c.self.view_is in
    kept_seen _ _ _ (pushed_back c.args.self.now _ _ _ _ _ c.args.head c.args.number _ _ kept c.requires.there c.requires.below c.requires.free (c.get-old.ensures no_head) c.if-old-eq0.false refl (c.set.ensures ∙ ap (set c.self.inside.next c.args.number) c.len.ensures) c.set-else-old-eq0.ensures c.set-else-old-eq0-2.ensures)

pub overflow_add-longer : goal.overflow_add-longer
overflow_add-longer c =
    let kept = kept_from c.args.self.now _ _ c.self.invariant.linked c.self.view_is in
    let fits = longer_by_one c.args.self.now _ _ c.args.head c.args.number _ kept c.requires.there c.requires.below c.requires.free (c.get-old.ensures no_head) in
    omega arith

pub set-requires-else-old-eq0 : goal.set-requires-else-old-eq0
set-requires-else-old-eq0 c =
    let kept = kept_from c.args.self.now _ _ c.self.invariant.linked c.self.view_is in
    let below = last_below c.args.self.now _ _ c.args.head _ kept c.requires.there (c.get-old.ensures no_head) c.if-old-eq0.false in
    omega (arith, ap length c.set.ensures, length-set c.self.inside.next c.args.number c.len.result)
