use Rattle.std.proofs.Common.{◌≡◌, ◌<◌, ◌++◌, ◌∷◌, [], ℕ, List, map, ap, ◌∙◌, sym, arith}
use Rattle.std.specs.List.{range_with_len}
use Rattle.std.proofs.lemmas.List.FromFn.{map-range_with_len_more}
use Rattle.sg_coord.specs.declared.coord.Coord.{Coord}
use Rattle.sg_coord.specs.Bounds.{bounds_of, volume}
use Rattle.sg_coord.specs.Coord.{point_at}
use Rattle.sg_elements.proofs.dense.every_point.Goals as goal

pub loop-row-preserved : goal.loop-row-preserved
loop-row-preserved c =
    let f = point_at (bounds_of c.args.extents.now) in
    let row = c.loop-row.row in
    let below : row < volume (bounds_of c.args.extents.now) = omega (arith, c.loop-row.auto.row-end, c.loop-row-test.true, c.volume-row-end.ensures.value) in
    record {
      listed = c.in_ok-push.ensures.items
          ∙ ap (λ (at : Coord). c.loop-row.coords.items ++ at ∷ []) (c.loop-row.invariant.next below)
          ∙ ap (λ (coords : List Coord). coords ++ f row ∷ []) c.loop-row.invariant.listed
          ∙ sym (map-range_with_len_more f 0 row row (omega arith));
      next = c.next_point-at.ensures;
    }

pub returns : goal.returns
returns c =
    let e = bounds_of c.args.extents.now in
    let last : c.loop-row.row ≡ volume e = omega (arith, c.loop-row.auto.row-end, c.loop-row-test.false, c.volume-row-end.ensures.value) in
    c.from_vec.ensures ∙ c.loop-row.invariant.listed ∙ ap (λ (k : ℕ). map (point_at e) (range_with_len 0 k)) last
