use Rattle.std.proofs.Common.{◌≡◌, ℕ, suc, ◌+◌, sym, ap, ◌∙◌, subst, arith}
use Rattle.std.proofs.lemmas.Option.{same_Some, slice_get_within}
use Rattle.sg_store.specs.declared.node.NodeWords.{NodeWords}
use Rattle.sg_store.specs.declared.reach.Full.{Full}
use Rattle.sg_store.specs.steps.Keying.{CanPlanKeys, IsKeyPlan}
use Rattle.sg_store.proofs.HashAt.{slots_at}
use Rattle.sg_store.proofs.HashLevel.{hash_opening, hash_capped, can_plan, can_settle_keys, hash_opened, hash_past_cap}
use Rattle.sg_store.proofs.store.Store.open_hash.Goals as goal

pub key_plan-requires : goal.key_plan-requires
key_plan-requires c =
    let o = hash_opening c.args.self.now c.args.index c.args.cap c.args.wanted.now c.args.slots.now c.layout.ensures.well_formed
    (c.paths_tell.ensures.is_slot c.args.self.now.shape) (c.need_counts_live.ensures.live c.args.self.now.shape) c.requires.hash c.requires.numbers in
    let capped = hash_capped c.args.self.now c.args.index o.level.node (c.rules_decide.ensures.accepted c.args.self.now.shape) c.layout.ensures.well_formed o.level.is.at o.hash in (
      slice_get_within c.args.self.now.nodes c.args.index o.level.kept o.level.is.has,
      λ kept has.
          subst (λ (k : NodeWords). CanPlanKeys k c.args.cap c.args.slots.now (slots_at c.args.self.now.shape.nodes 1 c.args.index)) (same_Some o.level.kept kept (sym o.level.is.has ∙ has))
          (can_plan c.args.self.now c.args.index c.args.cap c.args.wanted.now c.args.slots.now o capped),
    )

pub returns-then-plan-clause-full : goal.returns-then-plan-clause-full
returns-then-plan-clause-full c =
    let o = hash_opening c.args.self.now c.args.index c.args.cap c.args.wanted.now c.args.slots.now c.layout.ensures.well_formed
    (c.paths_tell.ensures.is_slot c.args.self.now.shape) (c.need_counts_live.ensures.live c.args.self.now.shape) c.requires.hash c.requires.numbers in
    let plan : IsKeyPlan o.level.kept c.args.cap c.args.slots.now (slots_at c.args.self.now.shape.nodes 1 c.args.index) c.in_ok-plan.plan =
    c.in_ok-plan.ensures o.level.kept o.level.is.has in
    let one : c.args.index + 1 ≡ suc c.args.index = omega arith in
    (ap (λ n. full_at n c.args.cap) one, hash_past_cap c.args.self.now c.args.index c.args.cap c.args.wanted.now c.args.slots.now c.in_ok-plan.plan o plan c.if-plan.true)
  where
    full_at : ℕ → ℕ → Full
    full_at n m = record { node = n; cap = m }

pub settle_key_plan-requires-clause-there : goal.settle_key_plan-requires-clause-there
settle_key_plan-requires-clause-there c =
    let o = hash_opening c.args.self.now c.args.index c.args.cap c.args.wanted.now c.args.slots.now c.layout.ensures.well_formed
    (c.paths_tell.ensures.is_slot c.args.self.now.shape) (c.need_counts_live.ensures.live c.args.self.now.shape) c.requires.hash c.requires.numbers in
    slice_get_within c.args.self.now.nodes c.args.index o.level.kept o.level.is.has

pub settle_key_plan-requires-clause-within : goal.settle_key_plan-requires-clause-within
settle_key_plan-requires-clause-within c =
    let o = hash_opening c.args.self.now c.args.index c.args.cap c.args.wanted.now c.args.slots.now c.layout.ensures.well_formed
    (c.paths_tell.ensures.is_slot c.args.self.now.shape) (c.need_counts_live.ensures.live c.args.self.now.shape) c.requires.hash c.requires.numbers in
    let plan : IsKeyPlan o.level.kept c.args.cap c.args.slots.now (slots_at c.args.self.now.shape.nodes 1 c.args.index) c.in_ok-plan.plan =
    c.in_ok-plan.ensures o.level.kept o.level.is.has in
    plan.linked.filled.enough

pub settle_key_plan-requires-clause-can : goal.settle_key_plan-requires-clause-can
settle_key_plan-requires-clause-can c =
    let o = hash_opening c.args.self.now c.args.index c.args.cap c.args.wanted.now c.args.slots.now c.layout.ensures.well_formed
    (c.paths_tell.ensures.is_slot c.args.self.now.shape) (c.need_counts_live.ensures.live c.args.self.now.shape) c.requires.hash c.requires.numbers in
    let plan : IsKeyPlan o.level.kept c.args.cap c.args.slots.now (slots_at c.args.self.now.shape.nodes 1 c.args.index) c.in_ok-plan.plan =
    c.in_ok-plan.ensures o.level.kept o.level.is.has in
    can_settle_keys c.args.self.now c.args.index c.args.cap c.args.wanted.now c.args.slots.now c.in_ok-plan.plan o plan c.if-plan.false

pub returns-clause-opened : goal.returns-clause-opened
returns-clause-opened c =
    let o = hash_opening c.args.self.now c.args.index c.args.cap c.args.wanted.now c.args.slots.now c.layout.ensures.well_formed
    (c.paths_tell.ensures.is_slot c.args.self.now.shape) (c.need_counts_live.ensures.live c.args.self.now.shape) c.requires.hash c.requires.numbers in
    let plan : IsKeyPlan o.level.kept c.args.cap c.args.slots.now (slots_at c.args.self.now.shape.nodes 1 c.args.index) c.in_ok-plan.plan =
    c.in_ok-plan.ensures o.level.kept o.level.is.has in
    (hash_opened c.args.self.now c.settle_key_plan.new.self c.args.index c.args.cap c.args.wanted.now c.args.slots.now c.in_ok-plan.plan o plan c.if-plan.false c.settle_key_plan.ensures).0

pub returns-clause-keeps : goal.returns-clause-keeps
returns-clause-keeps c =
    let o = hash_opening c.args.self.now c.args.index c.args.cap c.args.wanted.now c.args.slots.now c.layout.ensures.well_formed
    (c.paths_tell.ensures.is_slot c.args.self.now.shape) (c.need_counts_live.ensures.live c.args.self.now.shape) c.requires.hash c.requires.numbers in
    let plan : IsKeyPlan o.level.kept c.args.cap c.args.slots.now (slots_at c.args.self.now.shape.nodes 1 c.args.index) c.in_ok-plan.plan =
    c.in_ok-plan.ensures o.level.kept o.level.is.has in
    (hash_opened c.args.self.now c.settle_key_plan.new.self c.args.index c.args.cap c.args.wanted.now c.args.slots.now c.in_ok-plan.plan o plan c.if-plan.false c.settle_key_plan.ensures).1
