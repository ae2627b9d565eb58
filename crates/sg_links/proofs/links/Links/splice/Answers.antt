use Rattle.std.proofs.Common.{arith, ap, refl, ℕ, ◌∙◌}
use Rattle.std.proofs.lemmas.List.{length-set}
use Rattle.sg_links.specs.steps.Rows.{no_head}
use Rattle.sg_links.proofs.Kept.{head_of, kept_from, in_order, kept_seen}
use Rattle.sg_links.proofs.Changes.{spliced_first, spliced_behind, both_short, last_below}
use Rattle.sg_links.proofs.links.Links.splice.Goals as goal

pub invariant_of-self : goal.invariant_of-self
invariant_of-self c =
    let kept = kept_from c.args.self.now _ _ c.self.invariant.linked c.self.view_is in
    in_order _ _ _ _ _ _ _ _ _ c.self.invariant kept (spliced_first c.args.self.now _ _ _ _ c.args.head c.args.from _ _ _ kept c.requires.there c.requires.from_there c.requires.apart (c.get-old.ensures no_head) c.if-old-eq0.true (c.get-more.ensures no_head) (ap (λ (n : ℕ). head_of n n 0) c.len-end.ensures) c.set.ensures c.set-then-old-eq0.ensures) (length-set _ _ _ ∙ length-set _ _ _) refl

pub returns-then-old-eq0 : goal.returns-then-old-eq0
returns-then-old-eq0 c =
    let kept = kept_from c.args.self.now _ _ c.self.invariant.linked c.self.view_is in
    kept_seen _ _ _ (spliced_first c.args.self.now _ _ _ _ c.args.head c.args.from _ _ _ kept c.requires.there c.requires.from_there c.requires.apart (c.get-old.ensures no_head) c.if-old-eq0.true (c.get-more.ensures no_head) (ap (λ (n : ℕ). head_of n n 0) c.len-end.ensures) c.set.ensures c.set-then-old-eq0.ensures)

pub invariant_of-self-else-old-eq0 : goal.invariant_of-self-else-old-eq0
invariant_of-self-else-old-eq0 c =
    let kept = kept_from c.args.self.now _ _ c.self.invariant.linked c.self.view_is in
    in_order _ _ _ _ _ _ _ _ _ c.self.invariant kept (spliced_behind c.args.self.now _ _ _ _ _ c.args.head c.args.from _ _ _ _ kept c.requires.there c.requires.from_there c.requires.apart (c.get-old.ensures no_head) c.if-old-eq0.false (c.get-more.ensures no_head) c.if-more-eq0.false (ap (λ (n : ℕ). head_of n n 0) c.len-end.ensures) refl c.set-else-old-eq0.ensures c.set.ensures c.set-else-old-eq0-2.ensures) (length-set _ _ _ ∙ length-set _ _ _) refl

pub returns-else-old-eq0 : goal.returns-else-old-eq0
returns-else-old-eq0 c =
    let kept = kept_from c.args.self.now _ _ c.self.invariant.linked c.self.view_is in
    kept_seen _ _ _ (spliced_behind c.args.self.now _ _ _ _ _ c.args.head c.args.from _ _ _ _ kept c.requires.there c.requires.from_there c.requires.apart (c.get-old.ensures no_head) c.if-old-eq0.false (c.get-more.ensures no_head) c.if-more-eq0.false (ap (λ (n : ℕ). head_of n n 0) c.len-end.ensures) refl c.set-else-old-eq0.ensures c.set.ensures c.set-else-old-eq0-2.ensures)

pub overflow_add-both : goal.overflow_add-both
overflow_add-both c =
    let kept = kept_from c.args.self.now _ _ c.self.invariant.linked c.self.view_is in
    let fits = both_short c.args.self.now _ _ c.args.head c.args.from _ _ kept c.requires.there c.requires.from_there c.requires.apart (c.get-old.ensures no_head) (c.get-more.ensures no_head) in
    omega arith

pub set-requires-else-old-eq0 : goal.set-requires-else-old-eq0
set-requires-else-old-eq0 c =
    let kept = kept_from c.args.self.now _ _ c.self.invariant.linked c.self.view_is in
    last_below c.args.self.now _ _ c.args.head _ kept c.requires.there (c.get-old.ensures no_head) c.if-old-eq0.false
