use Rattle.std.proofs.Common.{ℕ, List, ap, ◌∙◌, subst}
use Rattle.sg_coord.specs.declared.coord.Coord.{Coord}
use Rattle.sg_exec.specs.steps.Racing.{between}
use Rattle.sg_exec.specs.steps.Turning.{SliceTells}
use Rattle.sg_exec.proofs.AtAllPoints.{alike_tells}
use Rattle.sg_exec.proofs.Ranges.{between_all, between_one}
use Rattle.sg_exec.proofs.activation.first_pass.look.Goals as goal

pub returns-then-block_reads_point : goal.returns-then-block_reads_point
returns-then-block_reads_point g c =
    subst (λ (points : List Coord). SliceTells c.args.stores.now.list c.args.block.now points c.no_want_outside.result) (ap (λ (n : ℕ). between 0 n c.args.points.now) c.len-all.ensures ∙ between_all c.args.points.now) c.no_want_outside.ensures

pub returns : goal.returns
returns g c =
    alike_tells c.args.stores.now.list c.args.block.now c.args.points.now _ c.no_want_outside_here.result (c.block_reads_point.ensures c.if-block_reads_point.false)
    (between_one c.one_of.result c.len-all.result c.args.points.now c.len-all.ensures c.one_of.ensures.one c.one_of.ensures.within c.one_of.ensures.some) c.no_want_outside_here.ensures
