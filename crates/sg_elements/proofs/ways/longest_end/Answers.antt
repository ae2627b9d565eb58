use Rattle.std.proofs.Common.{arith}
use Rattle.sg_elements.proofs.Growing.{branch_at}
use Rattle.sg_elements.proofs.Ends.{ends_more, ends_enough}
use Rattle.sg_elements.proofs.ways.longest_end.Goals as goal

pub loop-index-init : goal.loop-index-init
loop-index-init c = record { within = omega arith; ends = λ j below. absurd (omega (arith, below)) }

pub list_end-end-requires : goal.list_end-end-requires
list_end-end-requires c = (
  c.requires.there,
  (
    c.loop-index-test.true,
    (
      (λ branch there. branch_at c.args.store.now c.args.node c.loop-index.index c.args.level.now branch c.requires.level c.loop-index-test.true there),
      (c.requires.lists, c.loop-index.invariant.within),
    ),
  ),
)

pub loop-index-preserved : goal.loop-index-preserved
loop-index-preserved c = record {
  within = c.list_end-end.ensures.within;
  ends = ends_more c.args.store.now c.args.node c.loop-index.end c.list_end-end.result c.loop-index.index c.loop-index.invariant.ends c.list_end-end.ensures.later c.list_end-end.ensures.ends;
}

pub returns-clause-enough : goal.returns-clause-enough
returns-clause-enough c = ends_enough c.args.store.now c.args.node c.loop-index.end c.loop-index.index c.args.level.now c.requires.level (omega (arith, c.loop-index-test.false)) c.loop-index.invariant.ends
