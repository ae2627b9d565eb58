use Rattle.std.proofs.Common.{List, ◌∙◌, subst}
use Rattle.sg_coord.specs.declared.coord.Coord.{Coord}
use Rattle.sg_store.specs.StandsFor.{StandsFor}
use Rattle.sg_convert.specs.steps.Moving.{opened_layout, HasMoved}
use Rattle.sg_convert.proofs.Converts.{ConvertLaws, stands_after}
use Rattle.sg_convert.proofs.converting.convert.Goals as goal

pub returns-clause-converted : goal.returns-clause-converted
returns-clause-converted g c = λ flat stands.
    let from = c.args.from.now in
    let to = c.args.to.now in
    let laws : ConvertLaws from to = record {
      inside_test = c.numbering.ensures.inside_test;
      row_of_point = c.numbering.ensures.row_of_point;
      point_of_row = c.numbering.ensures.point_of_row;
      closure_inside = c.closure_members.ensures.inside from.shape;
      extends = c.closure_closes.ensures.extends to;
      closed = c.closure_closes.ensures.closed to;
      active = c.cells_are_active.ensures.active from;
    } in
    let kept = c.in_ok-kept.kept in
    let opened : StandsFor c.in-Ok.store (opened_layout to kept) = subst (λ (coords : List Coord). StandsFor c.in-Ok.store (opened_layout to coords)) c.cut-pieces.ensures.coords c.in-Ok.ensures.opened in
    let moved : HasMoved from c.in-Ok.store c.move_words.new.store kept = subst (HasMoved from c.in-Ok.store c.move_words.new.store) (c.as_slice-2.ensures ∙ c.cut-pieces.ensures.coords) c.move_words.ensures in
    stands_after from to laws c.requires.alike c.layout.ensures.well_formed flat stands kept (c.in_ok-kept.ensures.kept flat stands) c.in-Ok.store c.move_words.new.store c.in-Ok.ensures.shape opened moved
