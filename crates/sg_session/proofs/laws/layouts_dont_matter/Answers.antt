use Rattle.sg_words.specs.declared.operators.Ty.TheVariants as ty
use Rattle.sg_session.proofs.SameLayouts.{FlatLaws}
use Rattle.sg_session.proofs.SamePrograms.{TextLaws}
use Rattle.sg_session.proofs.SameRuns.{layouts_dont_matter}
use Rattle.sg_session.proofs.laws.layouts_dont_matter.Goals as goal

pub returns : goal.returns
returns c =
    let flat : FlatLaws = record {
      inside_test = c.numbering.ensures.inside_test;
      point_inside = c.numbering.ensures.point_inside;
      row_of_point = c.numbering.ensures.row_of_point;
      row_below = c.numbering.ensures.row_below;
      point_of_row = c.numbering.ensures.point_of_row;
      points_inside = c.points_in_order.ensures.inside;
      extends = c.closure_closes.ensures.extends;
      numbers_have_words = c.words_are_numbers.ensures.word ty.I32;
    } in
    let texts : TextLaws = record {
      parsed = c.parsed_is_spelled.ensures;
      fit = c.declared_layouts_fit.ensures;
      typed = c.typed_is_well_typed.ensures;
      variables = c.variables_are_numbered.ensures;
    } in
    layouts_dont_matter flat texts
