use Rattle.std.proofs.Common.{rules, to_z-of_z, w32, ◌∙◌, ◌^◌, arith}
use Rattle.std.specs.Prelude.{FitsSigned}
use Rattle.std.proofs.lemmas.Int.{ints}
use Rattle.sg_exec.proofs.BoxPoints.{same_point, box_region, side_fits, fits_as}
use Rattle.sg_exec.proofs.workers.region.region_of.Goals as goal

pub returns-clause-region : goal.returns-clause-region
returns-clause-region c =
    let a : FitsSigned w32 c.start.result = search rules in
    let b : FitsSigned w32 c.start-2.result = search rules in
    let d : FitsSigned w32 c.start-3.result = search rules in
    record {
      count_is = c.in_ok-count.ensures.value;
      few = c.in_ok-count.ensures.few;
      a_fits = fits_as _ _ _ _ (2 ^ 31) (to_z-of_z a ∙ c.start.ensures) c.count-planes.ensures (side_fits c.first-planes.result (2 ^ 31) (omega (arith, ints)) (omega (arith, ints)) (omega arith));
      b_fits = fits_as _ _ _ _ (2 ^ 31) (to_z-of_z b ∙ c.start-2.ensures) c.count-lines.ensures (side_fits c.second-lines.result (2 ^ 31) (omega (arith, ints)) (omega (arith, ints)) (omega arith));
      c_fits = fits_as _ _ _ _ (2 ^ 31) (to_z-of_z d ∙ c.start-3.ensures) c.count-cells.ensures (side_fits c.third-cells.result (2 ^ 31) (omega (arith, ints)) (omega (arith, ints)) (omega arith));
    }

pub returns-clause-points : goal.returns-clause-points
returns-clause-points c =
    let a : FitsSigned w32 c.start.result = search rules in
    let b : FitsSigned w32 c.start-2.result = search rules in
    let d : FitsSigned w32 c.start-3.result = search rules in
    box_region c.args.lo c.args.hi _ c.count-planes.result c.count-lines.result c.count-cells.result c.in_ok-count.count c.first-planes.result c.second-lines.result c.third-cells.result
    (same_point c.args.lo.n _ _ _ _ _ _ (to_z-of_z a ∙ c.start.ensures) (to_z-of_z b ∙ c.start-2.ensures) (to_z-of_z d ∙ c.start-3.ensures))
    c.count-planes.ensures c.count-lines.ensures c.count-cells.ensures c.in_ok-count.ensures.value c.first-planes.ensures c.second-lines.ensures c.third-cells.ensures
