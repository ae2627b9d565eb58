use Rattle.std.proofs.Common.{ℕ, pos, ap, ◌∙◌}
use Rattle.sg_coord.specs.Bounds.{bounds_of}
use Rattle.sg_exec.proofs.BoxPoints.{point, counted_from, all_inside}
use Rattle.sg_exec.proofs.workers.region.region_within.Goals as goal

pub returns-clause-points : goal.returns-clause-points
returns-clause-points c =
    let e = bounds_of c.args.extents.now in
    ap (λ (n : ℕ). counted_from (point e.n (pos 0) (pos 0) (pos 0)) e.b e.c n) c.volume.ensures.value ∙ all_inside e
