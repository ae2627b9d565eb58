use Rattle.sg_coord.specs.Bounds.{bounds_of}
use Rattle.sg_exec.proofs.Limited.{inside_within}
use Rattle.sg_exec.proofs.activation.limits.goes_outside.Goals as goal

pub returns : goal.returns
returns c = λ inside words up.
    inside_within (bounds_of c.args.extents.now) c.args.index.now words c.most_at-a.result c.most_at-b.result c.most_at-c.result c.numbering.ensures.inside_test c.numbering.ensures.bounds
    (c.has_other_axes.ensures c.if-has_other_axes.false) (c.passes.ensures c.if-passes.false) (c.passes-2.ensures c.if-passes-2.false) (c.passes-3.ensures inside)
    (c.most_at-a.ensures words up) (c.most_at-b.ensures words up) (c.most_at-c.ensures words up)
