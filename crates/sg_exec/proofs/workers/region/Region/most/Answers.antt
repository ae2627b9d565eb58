use Rattle.std.proofs.Common.{rules, to_z-of_z, w32, subst, ℤ, pos, ◌+ℤ◌, ◌≤ℤ◌}
use Rattle.std.specs.Prelude.{FitsSigned}
use Rattle.sg_exec.proofs.BoxPoints.{region_most}
use Rattle.sg_exec.proofs.workers.region.Region.most.Goals as goal

pub returns : goal.returns
returns c =
    let corner = c.args.self.corner in
    let ca : FitsSigned w32 corner.a = search rules in
    let cb : FitsSigned w32 corner.b = search rules in
    let ce : FitsSigned w32 corner.c = search rules in
    region_most c.args.self _ _ _ c.requires.region (subst (λ (z : ℤ). pos 0 ≤ℤ z) (to_z-of_z ca) c.last_part.ensures.low) (subst (λ (z : ℤ). pos 0 ≤ℤ z) (to_z-of_z cb) c.last_part-2.ensures.low)
    (subst (λ (z : ℤ). pos 0 ≤ℤ z) (to_z-of_z ce) c.last_part-3.ensures.low)
    (λ far below. subst (λ (z : ℤ). (z +ℤ pos far) ≤ℤ pos c.last_part.result) (to_z-of_z ca) (c.last_part.ensures.last far below))
    (λ far below. subst (λ (z : ℤ). (z +ℤ pos far) ≤ℤ pos c.last_part-2.result) (to_z-of_z cb) (c.last_part-2.ensures.last far below))
    (λ far below. subst (λ (z : ℤ). (z +ℤ pos far) ≤ℤ pos c.last_part-3.result) (to_z-of_z ce) (c.last_part-3.ensures.last far below))
