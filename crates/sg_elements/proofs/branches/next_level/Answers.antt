use Rattle.std.proofs.Common.{suc, sym, subst}
use Rattle.sg_elements.specs.steps.Levels.{AreBranches, AreWays}
use Rattle.sg_elements.proofs.Growing.{branch_at, level_more, taken_all}
use Rattle.sg_elements.proofs.branches.next_level.Goals as goal

pub push_below-requires : goal.push_below-requires
push_below-requires c = (
  c.requires.there,
  (
    c.loop-index-test.true,
    (
      (λ branch there. branch_at c.args.store.now c.args.node c.loop-index.index c.args.level.now branch c.requires.level c.loop-index-test.true there),
      subst (AreWays c.args.store.now c.args.node) (sym c.as_slice.ensures) c.in_ok-ways.ensures,
    ),
  ),
)

pub loop-index-preserved : goal.loop-index-preserved
loop-index-preserved c =
    level_more c.args.store.now c.args.node c.loop-index.index c.args.level.now c.loop-index.next.items c.push_below.new.next.items c.as_slice.result.now c.requires.level c.loop-index-test.true
    (subst (AreWays c.args.store.now c.args.node) (sym c.as_slice.ensures) c.in_ok-ways.ensures) c.loop-index.invariant c.in_ok-push_below.ensures

pub returns : goal.returns
returns c =
    subst (AreBranches c.args.store.now (suc c.args.node) c.loop-index.next.items) (taken_all c.args.store.now c.args.node c.loop-index.index c.args.level.now c.requires.level c.loop-index-test.false) c.loop-index.invariant
