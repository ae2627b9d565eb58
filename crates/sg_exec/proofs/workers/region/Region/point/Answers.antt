use Rattle.std.proofs.Common.{rules, to_z-of_z, w32, ◌∙◌, ap, ℤ, pos, ◌+ℤ◌}
use Rattle.std.specs.Prelude.{FitsSigned}
use Rattle.sg_exec.proofs.BoxPoints.{same_point}
use Rattle.sg_exec.proofs.workers.region.Region.point.Goals as goal

pub returns : goal.returns
returns c =
    let corner = c.args.self.corner in
    let ca : FitsSigned w32 corner.a = search rules in
    let cb : FitsSigned w32 corner.b = search rules in
    let ce : FitsSigned w32 corner.c = search rules in
    let a : FitsSigned w32 c.part_at.result = search rules in
    let b : FitsSigned w32 c.part_at-2.result = search rules in
    let d : FitsSigned w32 c.part_at-3.result = search rules in
    same_point corner.n _ _ _ _ _ _ (to_z-of_z a ∙ c.part_at.ensures ∙ ap (λ (z : ℤ). z +ℤ pos c.args.along.plane) (to_z-of_z ca))
    (to_z-of_z b ∙ c.part_at-2.ensures ∙ ap (λ (z : ℤ). z +ℤ pos c.args.along.line) (to_z-of_z cb))
    (to_z-of_z d ∙ c.part_at-3.ensures ∙ ap (λ (z : ℤ). z +ℤ pos c.args.along.cell) (to_z-of_z ce))
