use Rattle.std.proofs.Common.{◌∙◌, sym, subst}
use Rattle.sg_store.specs.WellFormed.{IsWellFormed}
use Rattle.sg_store.proofs.RowsMade.{copied_whole}
use Rattle.sg_store.proofs.store.Store.copy_by_workers.Goals as goal

pub invariant_of-result : goal.invariant_of-result
invariant_of-result g c =
    subst IsWellFormed
    (sym (copied_whole c.args.self.now c.cells_of-cells.result c.self.inside.layout c.in_ok-copy.field-0 c.self.inside.nodes.items c.in_ok-nodes.nodes.items c.self.inside.fields.items c.as_slice-rows.result.now c.in_ok-fields.fields.items
    c.self.view_is c.in_ok-copy.ensures (c.in_ok-nodes.ensures ∙ c.as_slice.ensures.value) c.as_slice-rows.ensures.value c.in_ok-fields.ensures))
    (subst IsWellFormed c.self.view_is c.self.invariant)

pub returns : goal.returns
returns g c =
    copied_whole c.args.self.now c.cells_of-cells.result c.self.inside.layout c.in_ok-copy.field-0 c.self.inside.nodes.items c.in_ok-nodes.nodes.items c.self.inside.fields.items c.as_slice-rows.result.now c.in_ok-fields.fields.items
    c.self.view_is c.in_ok-copy.ensures (c.in_ok-nodes.ensures ∙ c.as_slice.ensures.value) c.as_slice-rows.ensures.value c.in_ok-fields.ensures
