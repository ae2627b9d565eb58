use Rattle.std.proofs.Common.{sym, subst}
use Rattle.sg_store.specs.steps.AtNode.{AtNodeOf}
use Rattle.sg_store.specs.steps.Keying.{CanSettleKeys}
use Rattle.sg_store.proofs.HashLevel.{can_rekey, rekeyed_well_formed}
use Rattle.sg_store.proofs.store.Store.settle_table.Goals as goal

pub rekey_row_at-requires-clause-can : goal.rekey_row_at-requires-clause-can
rekey_row_at-requires-clause-can c =
    can_rekey (record { shape = c.self.inside.layout; nodes = c.self.inside.nodes.items; fields = c.self.inside.fields.items }) c.args.index c.args.keys c.args.links c.args.taken.now c.self.invariant
    (subst (λ s. AtNodeOf (CanSettleKeys c.args.keys c.args.links c.args.taken.now) s c.args.index) (sym c.self.view_is) c.requires.can)

pub invariant_of-self : goal.invariant_of-self
invariant_of-self c =
    rekeyed_well_formed (record { shape = c.self.inside.layout; nodes = c.self.inside.nodes.items; fields = c.self.inside.fields.items }) c.args.index c.args.keys c.args.links c.args.taken.now c.rekey_row_at.new.nodes.items c.self.invariant
    (subst (λ s. AtNodeOf (CanSettleKeys c.args.keys c.args.links c.args.taken.now) s c.args.index) (sym c.self.view_is) c.requires.can) c.rekey_row_at.ensures
