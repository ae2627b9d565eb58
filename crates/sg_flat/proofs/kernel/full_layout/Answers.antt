use Rattle.std.proofs.Common.{List, ◌∙◌, sym, subst}
use Rattle.std.specs.Prelude.{All}
use Rattle.sg_coord.specs.declared.coord.Coord.{Coord}
use Rattle.sg_coord.specs.Coord.{Inside}
use Rattle.sg_layout.specs.Axes.{bounds_of_shape}
use Rattle.sg_flat.proofs.FlatLayouts.{coords_inside}
use Rattle.sg_flat.proofs.kernel.full_layout.Goals as goal

pub first_full-requires : goal.first_full-requires
first_full-requires c =
    let shape = c.args.layout.now in
    subst (λ (coords : List Coord). All (Inside (bounds_of_shape shape)) coords) (sym (c.as_slice.ensures ∙ c.in_ok-coords.ensures))
    (coords_inside shape c.args.flat.now c.args.number c.args.effects.now.turns c.numbering.ensures.inside_test (c.closure_members.ensures.inside shape) c.requires.flat c.requires.inside)
