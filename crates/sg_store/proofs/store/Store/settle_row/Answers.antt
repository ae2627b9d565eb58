use Rattle.std.proofs.Common.{sym, subst}
use Rattle.sg_store.specs.steps.AtNode.{AtNodeOf}
use Rattle.sg_store.specs.steps.Settling.{CanSettleLinks}
use Rattle.sg_store.proofs.Settled.{can_relink, settled_well_formed}
use Rattle.sg_store.proofs.store.Store.settle_row.Goals as goal

pub relink_row_at-requires-clause-can : goal.relink_row_at-requires-clause-can
relink_row_at-requires-clause-can c =
    can_relink (record { shape = c.self.inside.layout; nodes = c.self.inside.nodes.items; fields = c.self.inside.fields.items }) c.args.index c.args.links c.args.taken.now c.self.invariant
    (subst (λ s. AtNodeOf (CanSettleLinks c.args.links c.args.taken.now) s c.args.index) (sym c.self.view_is) c.requires.can)

pub invariant_of-self : goal.invariant_of-self
invariant_of-self c =
    settled_well_formed (record { shape = c.self.inside.layout; nodes = c.self.inside.nodes.items; fields = c.self.inside.fields.items }) c.args.index c.args.links c.args.taken.now c.relink_row_at.new.nodes.items c.self.invariant
    (subst (λ s. AtNodeOf (CanSettleLinks c.args.links c.args.taken.now) s c.args.index) (sym c.self.view_is) c.requires.can) c.relink_row_at.ensures
