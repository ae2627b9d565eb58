use Rattle.std.proofs.Common.{sym, subst}
use Rattle.sg_store.specs.steps.AtNode.{AtNodeOf}
use Rattle.sg_store.specs.steps.Settling.{CanSettleMasks}
use Rattle.sg_store.proofs.Masked.{can_remask, masked_well_formed}
use Rattle.sg_store.proofs.store.Store.remask_node.Goals as goal

pub remask_at-requires-clause-can : goal.remask_at-requires-clause-can
remask_at-requires-clause-can c =
    can_remask (record { shape = c.self.inside.layout; nodes = c.self.inside.nodes.items; fields = c.self.inside.fields.items }) c.args.index c.args.masks.now
    (subst (λ s. AtNodeOf (CanSettleMasks c.args.masks.now) s c.args.index) (sym c.self.view_is) c.requires.can)

pub invariant_of-self : goal.invariant_of-self
invariant_of-self c =
    masked_well_formed (record { shape = c.self.inside.layout; nodes = c.self.inside.nodes.items; fields = c.self.inside.fields.items }) c.args.index c.args.masks.now c.remask_at.new.nodes.items c.self.invariant
    (subst (λ s. AtNodeOf (CanSettleMasks c.args.masks.now) s c.args.index) (sym c.self.view_is) c.requires.can) c.remask_at.ensures
