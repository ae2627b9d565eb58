use Rattle.std.proofs.Common.{ap, ◌∙◌, subst}
use Rattle.sg_layout.specs.declared.shape.Shape.{Shape}
use Rattle.sg_coord.specs.Bounds.{IsBounds}
use Rattle.sg_layout.specs.Axes.{bounds_of_shape}
use Rattle.sg_store.specs.StoreWords.{StoreWords}
use Rattle.sg_store.specs.WellFormed.{IsWellFormed}
use Rattle.sg_store.proofs.SizedNodes.{store_sized, some_nodes}
use Rattle.sg_store.proofs.StorePlans as lemmas
use Rattle.sg_store.proofs.store.Store.plan_first.Goals as goal

pub plan_node-requires : goal.plan_node-requires
plan_node-requires c =
    let store : StoreWords = c.args.self.now in
    let well : IsWellFormed store = subst IsWellFormed c.self.view_is c.self.invariant in
    let sized = store_sized store well (c.rules_decide.ensures.accepted store.shape) (c.paths_tell.ensures.fill store.shape)
    (subst (λ (s : StoreWords). IsBounds (bounds_of_shape s.shape)) c.self.view_is c.extents-extents.ensures.bounds) in
    let at = lemmas.node_read (record { shape = c.self.inside.layout; nodes = c.self.inside.nodes.items; fields = c.self.inside.fields.items }) store c.as_slice.result.now c.as_slice-2.result.now 0
    c.index-as_slice-0.result c.index-as_slice-0-2.result c.self.view_is c.self.invariant (c.as_slice.ensures ∙ ap (λ (s : Shape). s.nodes) c.shape.ensures.value) c.as_slice-2.ensures.value (some_nodes store.shape well.accepted) c.index-as_slice-0.is c.index-as_slice-0-2.is in
    lemmas.plannable store 0 c.index-as_slice-0.result c.index-as_slice-0-2.result well (c.rules_decide.ensures.accepted store.shape) sized at

pub returns : goal.returns
returns c = λ cells is are.
    let store : StoreWords = c.args.self.now in
    let well : IsWellFormed store = subst IsWellFormed c.self.view_is c.self.invariant in
    let at = lemmas.node_read (record { shape = c.self.inside.layout; nodes = c.self.inside.nodes.items; fields = c.self.inside.fields.items }) store c.as_slice.result.now c.as_slice-2.result.now 0
    c.index-as_slice-0.result c.index-as_slice-0-2.result c.self.view_is c.self.invariant (c.as_slice.ensures ∙ ap (λ (s : Shape). s.nodes) c.shape.ensures.value) c.as_slice-2.ensures.value (some_nodes store.shape well.accepted) c.index-as_slice-0.is c.index-as_slice-0-2.is in
    lemmas.plans_more store.shape.nodes store.nodes cells 0 c.index-as_slice-0.result c.index-as_slice-0-2.result c.args.plans.now.items c.push.new.self.items c.in_ok-plan_node.field-0 at c.in_ok-push.ensures.items are
    (record { row = lemmas.same_row c.args.row c.in_ok-plan_node.field-0.row _ c.in_ok-plan_node.ensures.row is; fits = c.in_ok-plan_node.ensures.plan })
