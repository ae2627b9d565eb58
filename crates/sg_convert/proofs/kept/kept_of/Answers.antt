use Rattle.std.proofs.Common.{List, sym, ap, ◌∙◌, subst}
use Rattle.std.specs.List.{All, filter}
use Rattle.sg_coord.specs.declared.coord.Coord.{Coord}
use Rattle.sg_coord.specs.Coord.{Inside}
use Rattle.sg_layout.specs.Axes.{bounds_of_shape}
use Rattle.sg_convert.specs.steps.Moving.{is_valued}
use Rattle.sg_convert.proofs.Converts.{kept_valued, kept_inside}
use Rattle.sg_convert.proofs.kept.kept_of.Goals as goal

pub returns-clause-inside : goal.returns-clause-inside
returns-clause-inside c = subst (All (Inside (bounds_of_shape c.args.store.now.shape))) (sym c.in_ok-kept.ensures) (kept_inside c.args.store.now c.numbering.ensures.inside_test c.args.active.now)

pub returns-clause-kept : goal.returns-clause-kept
returns-clause-kept c = λ flat stands.
    c.in_ok-kept.ensures
    ∙ ap (λ (list : List Coord). filter (is_valued c.args.store.now) list) (c.requires flat stands)
    ∙ kept_valued c.args.store.now (c.cells_are_active.ensures.active c.args.store.now) c.layout-layout.ensures.well_formed flat stands
