use Rattle.std.proofs.Common.{◌<◌, ◌++◌, [], ◌∷◌, List, length, get_or, map, take, sym, ap, ◌∙◌, subst}
use Rattle.std.proofs.lemmas.List.{map_more}
use Rattle.sg_layout.specs.declared.shape.Shape.{Shape}
use Rattle.sg_flat.specs.declared.state.FlatLayout.{FlatLayout}
use Rattle.sg_flat.specs.State.{opening_layout}
use Rattle.sg_flat.proofs.FlatLayouts.{AreFlatLayouts-more}
use Rattle.sg_flat.proofs.state.FlatState.open.Goals as goal

pub loop-layout-preserved : goal.loop-layout-preserved
loop-layout-preserved c =
    let shapes = c.args.layouts.now.list in
    let i = c.loop-layout.layout-index in
    let shape = c.layout-item.result in
    let below = subst (λ (ss : List Shape). i < length ss) c.as_slice-layout-items.ensures c.loop-layout-test.true in
    let is = c.layout-item.is ∙ ap (λ (ss : List Shape). get_or ss i shape) c.as_slice-layout-items.ensures in
    let pushed = c.in_ok-push.ensures.ok in
    record {
      opening = pushed
          ∙ ap (λ (ls : List FlatLayout). ls ++ c.in_ok-open.field-0 ∷ []) c.loop-layout.invariant.opening
          ∙ ap (λ (l : FlatLayout). map opening_layout (take i shapes) ++ l ∷ []) (c.in_ok-open.ensures.opening ∙ ap opening_layout is)
          ∙ sym (map_more opening_layout shapes i shape below);
      flat = AreFlatLayouts-more shapes c.loop-layout.flats c.push.new.self i shape c.in_ok-open.field-0 below is c.loop-layout.invariant.flat c.in_ok-open.ensures.flat pushed;
    }
