use Rattle.std.proofs.Common.{◌≡◌, ℕ, subst, arith}
use Rattle.sg_layout.specs.Path.{path}
use Rattle.sg_store.specs.Spots.{LeadsAlong}
use Rattle.sg_exec.proofs.BlockRows.{path_long, leads_more}
use Rattle.sg_exec.proofs.loads.blocks.front_of.Goals as goal

pub under-requires-clause-leads : goal.under-requires-clause-leads
under-requires-clause-leads c = (path c.args.store.now.shape c.args.at c.loop-index.index, c.loop-index.invariant)

pub under-requires-clause-not_last : goal.under-requires-clause-not_last
under-requires-clause-not_last c =
    omega (arith, c.loop-index.invariant.node, path_long c.args.store.now.shape c.args.at c.loop-index.index (omega (arith, c.requires.within, c.loop-index.auto.index-end, c.loop-index-test.true)), c.requires.within, c.loop-index.auto.index-end, c.loop-index-test.true)

pub loop-index-preserved : goal.loop-index-preserved
loop-index-preserved c =
    leads_more c.args.store.now c.layout-layout.result.now c.in_ok-spot.spot c.args.at c.loop-index.index c.offset.result c.layout-layout.ensures.layout (omega (arith, c.requires.within, c.loop-index.auto.index-end, c.loop-index-test.true))
    c.offset.ensures.value (c.in_ok-spot.ensures.below (path c.args.store.now.shape c.args.at c.loop-index.index) c.loop-index.invariant)

pub returns : goal.returns
returns c =
    let whole : c.loop-index.index ≡ c.args.through = omega (arith, c.loop-index.auto.index-end, c.loop-index-test.false) in
    subst (λ (n : ℕ). LeadsAlong c.args.store.now c.loop-index.spot (path c.args.store.now.shape c.args.at n)) whole c.loop-index.invariant
