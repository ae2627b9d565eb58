use Rattle.std.proofs.Common.{ℕ, List, sym, subst}
use Rattle.std.specs.Prelude.{All, IsTrue}
use Rattle.sg_flat.specs.Words.{are_words}
use Rattle.sg_flat.specs.declared.state.FlatLayout.{FlatLayout}
use Rattle.sg_flat.specs.State.{IsFlatLayout}
use Rattle.sg_flat.proofs.FlatLayouts.{RunLaws, layout_after_is, layout_after_is_flat}
use Rattle.sg_flat.proofs.kernel.next_layout.Goals as goal

pub returns-clause-flat : goal.returns-clause-flat
returns-clause-flat c =
    let shape = c.args.layout.now in
    let flat = c.args.flat.now in
    let turns = c.args.effects.now.turns in
    let coords = c.numbering.ensures in
    let laws : RunLaws shape = record {
      inside_test = coords.inside_test;
      point_inside = coords.point_inside;
      point_of_row = coords.point_of_row;
      extends = c.closure_closes.ensures.extends shape;
      closed = c.closure_closes.ensures.closed shape;
    } in
    subst (λ (l : FlatLayout). IsFlatLayout shape l)
    (sym (layout_after_is c.args.number shape flat turns c.in_ok-active.active c.in_ok-fields.fields c.in_ok-active.ensures c.in_ok-fields.ensures.meaning))
    (layout_after_is_flat c.args.number shape flat turns laws c.requires.inside c.requires.flat
    (subst (λ (fields : List (List (ℕ × ℕ))). All (λ words. IsTrue (are_words words)) fields) c.in_ok-fields.ensures.meaning c.in_ok-fields.ensures.in_range))
