use Rattle.std.proofs.Common.{arith}
use Rattle.sg_layout.proofs.Faultless.{size_step}
use Rattle.sg_layout.proofs.words.size_of.Goals as goal

pub overflow_mul-product : goal.overflow_mul-product
overflow_mul-product c =
    let l = c.loop-size in
    let step = size_step c.args.sizes.now l.size-index l.product c.count-product.result _ c.loop-size-test.true c.count-product.ensures l.invariant.0 l.invariant.1 in
    omega (arith, step.2, c.requires.small)

pub loop-size-preserved : goal.loop-size-preserved
loop-size-preserved c =
    let l = c.loop-size in
    let step = size_step c.args.sizes.now l.size-index l.product c.count-product.result _ c.loop-size-test.true c.count-product.ensures l.invariant.0 l.invariant.1 in
    (step.0, step.1, c.requires.small)
