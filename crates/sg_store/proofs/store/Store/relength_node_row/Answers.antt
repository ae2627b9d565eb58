use Rattle.std.proofs.Common.{sym, subst}
use Rattle.sg_store.specs.steps.AtNode.{AtNodeOf}
use Rattle.sg_store.specs.steps.Raising.{CanLengthen}
use Rattle.sg_store.proofs.DynamicLevel.{can_relength, settled_either}
use Rattle.sg_store.proofs.store.Store.relength_node_row.Goals as goal

pub relength_row_at-requires-clause-can : goal.relength_row_at-requires-clause-can
relength_row_at-requires-clause-can c =
    can_relength (record { shape = c.self.inside.layout; nodes = c.self.inside.nodes.items; fields = c.self.inside.fields.items }) c.args.index c.args.lengths.now c.args.chunk c.self.invariant
    (subst (λ s. AtNodeOf (CanLengthen c.args.lengths.now c.args.chunk) s c.args.index) (sym c.self.view_is) c.requires.can)

pub invariant_of-self : goal.invariant_of-self
invariant_of-self c =
    settled_either c.self.inside.layout c.self.inside.nodes.items c.relength_row_at.new.nodes.items c.self.inside.fields.items c.args.index c.args.lengths.now c.args.chunk c.relength_row_at.result c.self.invariant
    (subst (λ s. AtNodeOf (CanLengthen c.args.lengths.now c.args.chunk) s c.args.index) (sym c.self.view_is) c.requires.can) c.relength_row_at.ensures.fitted c.relength_row_at.ensures.stays
