use Rattle.std.proofs.Common.{[], sym, ap, ◌∙◌, subst}
use Rattle.sg_layout.specs.declared.shape.Shape.{Shape}
use Rattle.sg_ir.specs.steps.Walks.{AreWalkable}
use Rattle.std.proofs.lemmas.Result.{IfOk-weaker}
use Rattle.sg_ir.proofs.Extending.{extends-trans, all_named}
use Rattle.sg_ir.proofs.Placing.{walkable_from, place-leads}
use Rattle.sg_ir.proofs.AddingPlaces.{place-added}
use Rattle.sg_ir.proofs.place.place.Goals as goal

pub descend-requires-clause-walkable : goal.descend-requires-clause-walkable
descend-requires-clause-walkable c =
    subst AreWalkable (sym (c.as_slice-nodes.ensures ∙ ap (λ (shape : Shape). shape.nodes) c.shape.ensures.value)) (walkable_from c.args.layout.now c.shape.ensures.accepted c.extents-extents.ensures.bounds)

pub descend-requires-clause-place : goal.descend-requires-clause-place
descend-requires-clause-place c = (c.in_ok-inside.ensures.reaches []).named

pub descend-requires-clause-named : goal.descend-requires-clause-named
descend-requires-clause-named c =
    let both = extends-trans [] _ _ _ _ _ _ (c.in_ok-start.ensures.reaches []).extends (c.in_ok-inside.ensures.reaches []).extends in
    all_named c.args.names.now _ c.args.index.now both.grows c.requires.named

pub returns-clause-grows : goal.returns-clause-grows
returns-clause-grows c =
    let both = extends-trans [] _ _ _ _ _ _ (c.in_ok-start.ensures.reaches []).extends (c.in_ok-inside.ensures.reaches []).extends in
    IfOk-weaker c.descend.result _ _ (λ to reached. let all = extends-trans [] _ _ _ _ _ _ both (reached []).extends in (all.grows, (reached []).named)) c.descend.ensures.reaches

pub returns-clause-leads : goal.returns-clause-leads
returns-clause-leads c =
    let nodes = c.as_slice-nodes.ensures ∙ ap (λ (shape : Shape). shape.nodes) c.shape.ensures.value in
    let shape = c.args.layout.now in
    let laws = c.paths_tell.ensures in
    IfOk-weaker c.descend.result _ _ (λ to reached shapes there. place-leads shapes c.args.number shape _ _ c.args.index.now c.in_ok-start.start c.in_ok-inside.inside to _ _ _ _ _ _ _ _
    c.extents-extents.ensures.value nodes c.shape.ensures.accepted c.extents-extents.ensures.bounds c.numbering.ensures.inside_test (laws.is_slot shape) (laws.whole shape) c.requires.axes c.requires.named there
    (c.in_ok-start.ensures.reaches shapes) (c.in_ok-inside.ensures.reaches shapes) (reached shapes)) c.descend.ensures.reaches

pub returns-clause-typed : goal.returns-clause-typed
returns-clause-typed c =
    let nodes = c.as_slice-nodes.ensures ∙ ap (λ (shape : Shape). shape.nodes) c.shape.ensures.value in
    IfOk-weaker c.descend.result _ _ (λ to steps shapes there. place-added shapes c.args.number c.args.layout.now _ _ c.args.index.now c.in_ok-start.start c.in_ok-inside.inside to _ _ _ _ _ _ _ _ c.extents-extents.ensures.value nodes c.requires.axes c.requires.named there c.in_ok-start.ensures.puts (c.in_ok-inside.ensures.typed shapes) (steps shapes)) c.descend.ensures.typed
