use Rattle.std.proofs.Common.{arith, ap, sym, ℕ, ◌-◌, refl}
use Rattle.std.proofs.lemmas.List.{length-set}
use Rattle.sg_links.specs.declared.head.Head.{Head}
use Rattle.sg_links.specs.steps.Rows.{no_head}
use Rattle.sg_links.proofs.Kept.{head_of, kept_from, in_order, kept_seen}
use Rattle.sg_links.proofs.Changes.{first_is, first_below, popped}
use Rattle.sg_links.proofs.links.Links.pop_front.Goals as goal

pub get-requires : goal.get-requires
get-requires c =
    let kept = kept_from c.args.self.now _ _ c.self.invariant.linked c.self.view_is in
    let below = first_below c.args.self.now _ _ c.args.head _ kept c.requires (c.get-old.ensures no_head) (omega arith) in
    omega (arith, below)

pub invariant_of-self : goal.invariant_of-self
invariant_of-self c =
    let kept = kept_from c.args.self.now _ _ c.self.invariant.linked c.self.view_is in
    let old : Head = c.get-old.result in
    let made = ap (λ (n : ℕ). head_of n old.last (old.len - 1)) (c.get.ensures 0) in
    in_order _ _ _ _ _ _ _ _ _ c.self.invariant kept (popped c.args.self.now _ _ _ c.args.head _ _ kept c.requires (c.get-old.ensures no_head) (omega arith) made c.set.ensures) (length-set _ _ _) refl

pub returns-clause-value : goal.returns-clause-value
returns-clause-value c =
    let kept = kept_from c.args.self.now _ _ c.self.invariant.linked c.self.view_is in
    sym (first_is c.args.self.now _ _ c.args.head _ kept c.requires (c.get-old.ensures no_head) (omega arith))

pub returns-clause-left : goal.returns-clause-left
returns-clause-left c =
    let kept = kept_from c.args.self.now _ _ c.self.invariant.linked c.self.view_is in
    let old : Head = c.get-old.result in
    let made = ap (λ (n : ℕ). head_of n old.last (old.len - 1)) (c.get.ensures 0) in
    kept_seen _ _ _ (popped c.args.self.now _ _ _ c.args.head _ _ kept c.requires (c.get-old.ensures no_head) (omega arith) made c.set.ensures)
