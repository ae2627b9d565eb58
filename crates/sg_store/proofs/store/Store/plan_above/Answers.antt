use Rattle.std.proofs.Common.{ap, ◌∙◌, subst}
use Rattle.sg_layout.specs.declared.shape.Shape.{Shape}
use Rattle.sg_coord.specs.Bounds.{IsBounds}
use Rattle.sg_layout.specs.Axes.{bounds_of_shape}
use Rattle.sg_store.specs.StoreWords.{StoreWords}
use Rattle.sg_store.specs.WellFormed.{IsWellFormed}
use Rattle.sg_store.proofs.Beginning.{ordered}
use Rattle.sg_store.proofs.SizedNodes.{store_sized}
use Rattle.sg_store.proofs.StorePlans as lemmas
use Rattle.sg_store.proofs.store.Store.plan_above.Goals as goal

pub bounds-as_slice-index-2 : goal.bounds-as_slice-index-2
bounds-as_slice-index-2 c =
    let store : StoreWords = c.args.self.now in
    lemmas.words_there store c.as_slice-2.result.now c.args.index (subst IsWellFormed c.self.view_is c.self.invariant)
    (c.as_slice-2.ensures.value ∙ ap (λ (s : StoreWords). s.nodes) c.self.view_is) c.requires.there

pub plan_node-requires : goal.plan_node-requires
plan_node-requires c =
    let store : StoreWords = c.args.self.now in
    let well : IsWellFormed store = subst IsWellFormed c.self.view_is c.self.invariant in
    let sized = store_sized store well (c.rules_decide.ensures.accepted store.shape) (c.paths_tell.ensures.fill store.shape)
    (subst (λ (s : StoreWords). IsBounds (bounds_of_shape s.shape)) c.self.view_is c.extents-extents.ensures.bounds) in
    let at = lemmas.node_read (record { shape = c.self.inside.layout; nodes = c.self.inside.nodes.items; fields = c.self.inside.fields.items }) store c.as_slice.result.now c.as_slice-2.result.now c.args.index
    c.index-as_slice-index.result c.index-as_slice-index-2.result c.self.view_is c.self.invariant (c.as_slice.ensures ∙ ap (λ (s : Shape). s.nodes) c.shape.ensures.value) c.as_slice-2.ensures.value c.requires.there c.index-as_slice-index.is c.index-as_slice-index-2.is in
    lemmas.plannable store c.args.index c.index-as_slice-index.result c.index-as_slice-index-2.result well (c.rules_decide.ensures.accepted store.shape) sized at

pub row_above-requires-clause-node : goal.row_above-requires-clause-node
row_above-requires-clause-node c =
    let store : StoreWords = c.args.self.now in
    let well : IsWellFormed store = subst IsWellFormed c.self.view_is c.self.invariant in
    let sized = store_sized store well (c.rules_decide.ensures.accepted store.shape) (c.paths_tell.ensures.fill store.shape)
    (subst (λ (s : StoreWords). IsBounds (bounds_of_shape s.shape)) c.self.view_is c.extents-extents.ensures.bounds) in
    let at = lemmas.node_read (record { shape = c.self.inside.layout; nodes = c.self.inside.nodes.items; fields = c.self.inside.fields.items }) store c.as_slice.result.now c.as_slice-2.result.now c.args.index
    c.index-as_slice-index.result c.index-as_slice-index-2.result c.self.view_is c.self.invariant (c.as_slice.ensures ∙ ap (λ (s : Shape). s.nodes) c.shape.ensures.value) c.as_slice-2.ensures.value c.requires.there c.index-as_slice-index.is c.index-as_slice-index-2.is in
    lemmas.plannable store c.args.index c.index-as_slice-index.result c.index-as_slice-index-2.result well (c.rules_decide.ensures.accepted store.shape) sized at

pub row_above-requires-clause-linked : goal.row_above-requires-clause-linked
row_above-requires-clause-linked c =
    let store : StoreWords = c.args.self.now in
    let well : IsWellFormed store = subst IsWellFormed c.self.view_is c.self.invariant in
    let at = lemmas.node_read (record { shape = c.self.inside.layout; nodes = c.self.inside.nodes.items; fields = c.self.inside.fields.items }) store c.as_slice.result.now c.as_slice-2.result.now c.args.index
    c.index-as_slice-index.result c.index-as_slice-index-2.result c.self.view_is c.self.invariant (c.as_slice.ensures ∙ ap (λ (s : Shape). s.nodes) c.shape.ensures.value) c.as_slice-2.ensures.value c.requires.there c.index-as_slice-index.is c.index-as_slice-index-2.is in
    lemmas.not_hash store.shape.nodes c.args.index c.index-as_slice-index.result (ordered store.shape (c.rules_decide.ensures.accepted store.shape) well.accepted) c.requires.later at.at

pub row_above-requires-clause-within : goal.row_above-requires-clause-within
row_above-requires-clause-within c =
    let store : StoreWords = c.args.self.now in
    let well : IsWellFormed store = subst IsWellFormed c.self.view_is c.self.invariant in
    let sized = store_sized store well (c.rules_decide.ensures.accepted store.shape) (c.paths_tell.ensures.fill store.shape)
    (subst (λ (s : StoreWords). IsBounds (bounds_of_shape s.shape)) c.self.view_is c.extents-extents.ensures.bounds) in
    let at = lemmas.node_read (record { shape = c.self.inside.layout; nodes = c.self.inside.nodes.items; fields = c.self.inside.fields.items }) store c.as_slice.result.now c.as_slice-2.result.now c.args.index
    c.index-as_slice-index.result c.index-as_slice-index-2.result c.self.view_is c.self.invariant (c.as_slice.ensures ∙ ap (λ (s : Shape). s.nodes) c.shape.ensures.value) c.as_slice-2.ensures.value c.requires.there c.index-as_slice-index.is c.index-as_slice-index-2.is in
    lemmas.leads_to store c.args.index c.index-as_slice-index.result c.index-as_slice-index-2.result c.args.row c.in_ok-plan.plan.row c.marked_above.result c.size-size.result well sized at c.requires.row
    c.in_ok-plan.ensures.row c.marked_above.ensures (lemmas.size_read store c.self.inside.layout c.args.index c.index-as_slice-index.result c.size-size.result (ap (λ (s : StoreWords). s.shape) c.self.view_is) at.at c.size-size.ensures.value)

pub row_above-requires-clause-room : goal.row_above-requires-clause-room
row_above-requires-clause-room c =
    let store : StoreWords = c.args.self.now in
    let well : IsWellFormed store = subst IsWellFormed c.self.view_is c.self.invariant in
    let at = lemmas.node_read (record { shape = c.self.inside.layout; nodes = c.self.inside.nodes.items; fields = c.self.inside.fields.items }) store c.as_slice.result.now c.as_slice-2.result.now c.args.index
    c.index-as_slice-index.result c.index-as_slice-index-2.result c.self.view_is c.self.invariant (c.as_slice.ensures ∙ ap (λ (s : Shape). s.nodes) c.shape.ensures.value) c.as_slice-2.ensures.value c.requires.there c.index-as_slice-index.is c.index-as_slice-index-2.is in
    lemmas.marked_few store c.args.index c.index-as_slice-index.result c.marked_above.result c.size-size.result well at.at c.marked_above.ensures
    (lemmas.size_read store c.self.inside.layout c.args.index c.index-as_slice-index.result c.size-size.result (ap (λ (s : StoreWords). s.shape) c.self.view_is) at.at c.size-size.ensures.value)

pub returns : goal.returns
returns c = λ cells is are.
    let store : StoreWords = c.args.self.now in
    let well : IsWellFormed store = subst IsWellFormed c.self.view_is c.self.invariant in
    let at = lemmas.node_read (record { shape = c.self.inside.layout; nodes = c.self.inside.nodes.items; fields = c.self.inside.fields.items }) store c.as_slice.result.now c.as_slice-2.result.now c.args.index
    c.index-as_slice-index.result c.index-as_slice-index-2.result c.self.view_is c.self.invariant (c.as_slice.ensures ∙ ap (λ (s : Shape). s.nodes) c.shape.ensures.value) c.as_slice-2.ensures.value c.requires.there c.index-as_slice-index.is c.index-as_slice-index-2.is in
    lemmas.plan_added store.shape.nodes store.nodes cells c.args.index c.index-as_slice-index.result c.index-as_slice-index-2.result c.args.row c.in_ok-above.above c.args.plans.now.items c.push.new.self.items c.in_ok-plan.plan at is are
    c.in_ok-plan.ensures.row c.in_ok-plan.ensures.plan c.in_ok-above.ensures.above c.in_ok-push.ensures.items
