use Rattle.std.proofs.Common.{false, refl, sym, ap, ◌∙◌}
use Rattle.std.proofs.lemmas.Bool.{both_ways}
use Rattle.sg_flat.specs.steps.Blocks.{row_in_blocks, reach_in, point_in}
use Rattle.sg_flat.proofs.Neighbours.{before_at, behind_at}
use Rattle.sg_flat.proofs.blocks.Blocks.has_neighbours.Goals as goal

pub returns-then-not-has_before : goal.returns-then-not-has_before
returns-then-not-has_before c =
    let blocks = c.args.self.now in
    let rows = c.args.rows.now in
    let at = c.coord_at-at.result in
    let point = point_in blocks c.args.row in
    let is = c.coord_at-at.ensures.value in
    let place = c.place-place.ensures.value ∙ ap (row_in_blocks blocks) is in (
      λ no. absurd (both_ways false refl no),
      λ has. absurd (both_ways false refl (c.if-not-has_before.ensures.1 (before_at blocks rows point at (row_in_blocks blocks point) c.place-place.result (sym is) (sym place) has.before))),
    )

pub returns : goal.returns
returns c =
    let blocks = c.args.self.now in
    let rows = c.args.rows.now in
    let at = c.coord_at-at.result in
    let point = point_in blocks c.args.row in
    let is = c.coord_at-at.ensures.value in
    let place = c.place-place.ensures.value ∙ ap (row_in_blocks blocks) is in
    let reach = c.reach-reach.ensures.value ∙ ap (reach_in blocks) is in (
      λ yes. record {
        before = before_at blocks rows at point c.place-place.result (row_in_blocks blocks point) is place (c.if-not-has_before.ensures.0 refl);
        behind = behind_at blocks rows at point c.place-place.result (row_in_blocks blocks point) c.reach-reach.result (reach_in blocks point) is place reach (c.has_behind.ensures.0 yes);
      },
      λ has. c.has_behind.ensures.1
          (behind_at blocks rows point at (row_in_blocks blocks point) c.place-place.result (reach_in blocks point) c.reach-reach.result (sym is) (sym place) (sym reach) has.behind),
    )
