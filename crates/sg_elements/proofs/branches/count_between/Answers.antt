use Rattle.std.proofs.Common.{◌≡◌, ◌+◌, length, subst, arith, ℕ}
use Rattle.sg_elements.specs.steps.Levels.{rows_upto}
use Rattle.sg_elements.proofs.Growing.{branch_at, count_more}
use Rattle.sg_elements.proofs.branches.count_between.Goals as goal

pub count_below-count-requires : goal.count_below-count-requires
count_below-count-requires c = (
  c.requires.there,
  (
    omega (arith, c.loop-index-test.true, c.requires.within),
    (
      (λ branch there. branch_at c.args.store.now c.args.node c.loop-index.index c.args.level.now branch c.requires.level (omega (arith, c.loop-index-test.true, c.requires.within)) there),
      c.requires.ways,
    ),
  ),
)

pub overflow_add-count : goal.overflow_add-count
overflow_add-count c =
    let more = count_more c.args.store.now c.args.node c.loop-index.index c.args.level.now c.args.ways.now c.requires.level (omega (arith, c.loop-index-test.true, c.requires.within)) c.requires.ways in
    omega (arith, more, c.requires.few (c.loop-index.index + 1), c.loop-index.invariant, c.count_below-count.ensures)

pub loop-index-preserved : goal.loop-index-preserved
loop-index-preserved c =
    let more = count_more c.args.store.now c.args.node c.loop-index.index c.args.level.now c.args.ways.now c.requires.level (omega (arith, c.loop-index-test.true, c.requires.within)) c.requires.ways in
    omega (arith, more, c.loop-index.invariant, c.count_below-count.ensures)

pub returns : goal.returns
returns c =
    let end : c.loop-index.index ≡ c.args.to = omega (arith, c.loop-index-test.false, c.loop-index.auto.index-end, c.requires.order) in
    subst (λ (n : ℕ). length (rows_upto c.args.store.now c.args.node n) ≡ length (rows_upto c.args.store.now c.args.node c.args.from) + c.loop-index.count) end c.loop-index.invariant
