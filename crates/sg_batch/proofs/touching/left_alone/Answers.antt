use Rattle.std.proofs.Common.{◌+◌, ℕ, sym, subst, arith}
use Rattle.sg_batch.proofs.Alone.{AloneBelow, alone_first, alone_next, alone_end, alone_not}
use Rattle.sg_batch.proofs.touching.left_alone.Goals as goal

pub loop-layout-init : goal.loop-layout-init
loop-layout-init c = alone_first c.args.one.now c.args.other.now

pub loop-layout-preserved : goal.loop-layout-preserved
loop-layout-preserved c =
    subst (λ (n : ℕ). AloneBelow c.args.one.now c.args.other.now (n + 1)) (sym c.from-found.ensures)
    (alone_next c.args.one.now c.args.other.now c.loop-layout.from c.in-Some.layout c.in-Some.ensures (c.touches.ensures.none c.if-touches.false) c.loop-layout.invariant)

pub loop-layout-smaller : goal.loop-layout-smaller
loop-layout-smaller c = let next = c.in-Some.ensures.1.0 in omega (arith, next, c.from-found.ensures)

pub returns-then-touches : goal.returns-then-touches
returns-then-touches c = sym (alone_not c.args.one.now c.args.other.now c.in-Some.layout c.in-Some.ensures.0 (c.touches.ensures.some c.if-touches.true))

pub returns : goal.returns
returns c = sym (alone_end c.args.one.now c.args.other.now c.loop-layout.from c.in_default.ensures c.loop-layout.invariant)
